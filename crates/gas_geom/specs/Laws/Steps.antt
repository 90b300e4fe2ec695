-- Steps: what the columns and rows after a step are, and that the step back leads home.
use Rattle.std.proofs.Common.{◌≡◌, ℕ, ◌+◌, ◌-◌, ◌%◌, ◌<◌, Bool, not, Some, None, Option, option_map, ap, ◌∙◌, sym, arith, subst}
use Rattle.std.proofs.Math.Nat.{mod-eq_of_lt, mod-add-mod, add-mod_right}
use Rattle.std.specs.Prelude.{◌==◌}
use Rattle.std.proofs.lemmas.Bool.Decides.{nat_tests}
use Rattle.std.proofs.lemmas.Option.{some_pair_parts}
use Rattle.gas_geom.specs.declared.moves.Move.{Move}
use Rattle.gas_geom.specs.declared.moves.Move.TheVariants.{Back, Stay, On}
use Rattle.gas_geom.specs.Moves.{column_after, row_after}
use Rattle.gas_geom.specs.Gas.{Rules, neighbour_of}

-- the move that undoes a move
abbrev pub reversed : Move → Move
reversed Back = On
reversed Stay = Stay
reversed On = Back

-- the parity of the row that a move across the rows leads to
abbrev pub odd_after : Move → Bool → Bool
odd_after Back odd = not odd
odd_after Stay odd = odd
odd_after On odd = not odd

abbrev pub is_odd : ℕ → Bool
is_odd y = y % 2 == 1

pub column_after-lt : (w x : ℕ) (m : Move) → x < w → column_after w x m < w
column_after-lt w x Back within = grind arith
column_after-lt w x Stay within = grind arith
column_after-lt w x On within = grind arith

-- a number past the last column by a whole turn
pub whole_turn : (w x v : ℕ) → x < w → v ≡ x + w → v % w ≡ x
whole_turn w x v within e = ap (λ n. n % w) e ∙ add-mod_right x w ∙ mod-eq_of_lt within

-- a step along the row and the step back
pub column-there_and_back : (w x : ℕ) (m : Move) → x < w → column_after w (column_after w x m) (reversed m) ≡ x
column-there_and_back w x Back within =
    mod-add-mod (x + w - 1) w 1 ∙ whole_turn w x (x + w - 1 + 1) within (omega arith)
column-there_and_back w x Stay within = mod-eq_of_lt (column_after-lt w x Stay within) ∙ mod-eq_of_lt within
column-there_and_back w x On within =
    ap (λ v. v % w) (let e : (x + 1) % w + w - 1 ≡ (x + 1) % w + (w - 1) = omega arith in e)
    ∙ mod-add-mod (x + 1) w (w - 1) ∙ whole_turn w x (x + 1 + (w - 1)) within (omega arith)

-- a step across the rows and the step back
pub row-there_and_back : (h y y' : ℕ) (m : Move) → y < h → row_after h y m ≡ Some y' → row_after h y' (reversed m) ≡ Some y
row-there_and_back h y y' Back within there = grind (arith, nat_tests)
row-there_and_back h y y' Stay within there = grind (arith, nat_tests)
row-there_and_back h y y' On within there = grind (arith, nat_tests)

pub row_after-lt : (h y y' : ℕ) (m : Move) → y < h → row_after h y m ≡ Some y' → y' < h
row_after-lt h y y' Back within there = grind (arith, nat_tests)
row_after-lt h y y' Stay within there = grind (arith, nat_tests)
row_after-lt h y y' On within there = grind (arith, nat_tests)

pub odd-row_after : (h y y' : ℕ) (m : Move) → row_after h y m ≡ Some y' → is_odd y' ≡ odd_after m (is_odd y)
odd-row_after h y y' Back there = grind (arith, nat_tests)
odd-row_after h y y' Stay there = grind (arith, nat_tests)
odd-row_after h y y' On there = grind (arith, nat_tests)

mapped-parts : (a x' y' : ℕ) (o : Option ℕ) → option_map {U = ℕ × ℕ} (λ r. (a, r)) o ≡ Some (x', y') → (a ≡ x') × (o ≡ Some y')
mapped-parts a x' y' None e = absurd (cc)
mapped-parts a x' y' (Some r) e = let p = some_pair_parts a x' r y' e in (p.0, ap Some p.1)

-- what a neighbour is, by its column and its row
pub neighbour-parts : (gas : Rules) (w h x y i x' y' : ℕ) → neighbour_of gas w h x y i ≡ Some (x', y') →
    (column_after w x (gas.step i (is_odd y)).0 ≡ x') × (row_after h y (gas.step i (is_odd y)).1 ≡ Some y')
neighbour-parts gas w h x y i x' y' there =
    let m = gas.step i (is_odd y) in mapped-parts (column_after w x m.0) x' y' (row_after h y m.1) there

pub neighbour-within : (gas : Rules) (w h x y i x' y' : ℕ) → x < w → y < h → neighbour_of gas w h x y i ≡ Some (x', y') →
    (x' < w) × (y' < h)
neighbour-within gas w h x y i x' y' inx iny there =
    let p = neighbour-parts gas w h x y i x' y' there in
    (subst (λ v. v < w) p.0 (column_after-lt w x (gas.step i (is_odd y)).0 inx), row_after-lt h y y' (gas.step i (is_odd y)).1 iny p.1)

-- where the step against a direction, from the row that the step in it leads to, undoes that step, the neighbour against the
-- direction, from the neighbour in it, is the cell itself
pub neighbour-back : (gas : Rules) (w h x y i x' y' : ℕ) →
    ((odd : Bool) → gas.step (gas.opposite i) (odd_after (gas.step i odd).1 odd) ≡ (reversed (gas.step i odd).0, reversed (gas.step i odd).1)) →
    x < w → y < h → neighbour_of gas w h x y i ≡ Some (x', y') → neighbour_of gas w h x' y' (gas.opposite i) ≡ Some (x, y)
neighbour-back gas w h x y i x' y' undoes inx iny there =
    let p = neighbour-parts gas w h x y i x' y' there in
    let m : Move × Move = gas.step i (is_odd y) in
    let parity : is_odd y' ≡ odd_after m.1 (is_odd y) = odd-row_after h y y' m.1 p.1 in
    let back : gas.step (gas.opposite i) (is_odd y') ≡ (reversed m.0, reversed m.1) =
    ap (λ b. gas.step (gas.opposite i) b) parity ∙ undoes (is_odd y) in
    ap (λ (n : Move × Move). option_map {U = ℕ × ℕ} (λ y''. (column_after w x' n.0, y'')) (row_after h y' n.1)) back
    ∙ ap (option_map {U = ℕ × ℕ} (λ y''. (column_after w x' (reversed m.0), y''))) (row-there_and_back h y y' m.1 iny p.1)
    ∙ ap (λ v. Some (v, y)) (ap (λ v. column_after w v (reversed m.0)) (sym p.0) ∙ column-there_and_back w x m.0 inx)
