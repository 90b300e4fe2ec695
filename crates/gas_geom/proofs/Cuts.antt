-- A part of a lattice is the whole, away from its cuts: what arrives at a cell comes from the rows beside it.
use Rattle.std.proofs.Common.{◌≡◌, ℕ, zero, suc, ◌+◌, ◌-◌, ◌%◌, ◌<◌, ◌≤◌, Bool, if◌then◌else◌, Option, None, Some, List, [], get_or, ap, ◌∙◌, sym, refl, arith, inl, inr, option_map}
use Rattle.std.specs.Prelude.{◌==◌, nat_lt}
use Rattle.std.specs.Option.{option_map_or}
use Rattle.std.proofs.lemmas.List.{get_or_past}
use Rattle.std.proofs.lemmas.List.FromFn.{get_or-map-range_with_len, length-map-range_with_len}
use Rattle.std.proofs.lemmas.Bool.{cases_lt}
use Rattle.std.proofs.lemmas.Bool.Decides.{nat_tests}
use Rattle.gas_geom.specs.declared.moves.Move.{Move}
use Rattle.gas_geom.specs.declared.moves.Move.TheVariants.{Back, Stay, On}
use Rattle.gas_geom.specs.Moves.{row_after, column_after}
use Rattle.gas_geom.specs.Gas.{Rules, holds}
use Rattle.gas_geom.specs.Channel.{ChannelModel, is_solid}
use Rattle.gas_geom.specs.Lattice.{LatticeModel, cell, row_of, rows_of, arriving, collided, streamed, set_of, next, generation}
use Rattle.gas_geom.specs.Parts.{IsPartFrom, IsFarFromCuts}
use Rattle.gas_geom.specs.Laws.Steps.{is_odd}
use Rattle.gas_geom.proofs.Holds.{set_of-same}
use Rattle.gas_geom.proofs.Runs.{cell-made}

-- in a row that is far enough from the cuts a move leads to the same row of both, or past the wall of both
module _ (first : ℕ) (p w : ChannelModel) (within : first + p.height ≤ w.height) where
  data Beside (n y : ℕ) (m : Move) : Type 0 where
    wall : row_after p.height y m ≡ None → row_after w.height (first + y) m ≡ None → Beside n y m
    row : (v : ℕ) → row_after p.height y m ≡ Some v → row_after w.height (first + y) m ≡ Some (first + v) → IsFarFromCuts first n p w v → Beside n y m

  beside : (n y : ℕ) (m : Move) → IsFarFromCuts first (suc n) p w y → Beside n y m
  beside n y Back far = elim (cases_lt 0 y) [
    | inl below ↦ row (y - 1) (grind (arith, nat_tests)) (grind (arith, nat_tests)) (record { row = omega (arith, far.row); above = λ h. omega (arith, far.above h); below = λ h. omega (arith, far.below h) })
    | inr top ↦ elim (cases_lt 0 first) [
      | inl cut ↦ absurd (omega (arith, far.above cut))
      | inr none ↦ wall (grind (arith, nat_tests)) (grind (arith, nat_tests))
    ]
  ]
  beside n y Stay far = row y refl refl (record { row = far.row; above = λ h. omega (arith, far.above h); below = λ h. omega (arith, far.below h) })
  beside n y On far = elim (cases_lt (y + 1) p.height) [
    | inl above ↦ row (y + 1) (grind (arith, nat_tests)) (grind (arith, nat_tests)) (record { row = above; above = λ h. omega (arith, far.above h); below = λ h. omega (arith, far.below h) })
    | inr bottom ↦ elim (cases_lt (first + p.height) w.height) [
      | inl cut ↦ absurd (omega (arith, far.below cut))
      | inr none ↦ wall (grind (arith, nat_tests)) (grind (arith, nat_tests, far.row))
    ]
  ]

module _ (gas : Rules) (first : ℕ) (even : first % 2 ≡ 0) (p w : ChannelModel) (wide : p.width ≡ w.width) (within : first + p.height ≤ w.height)
    (solid : (x y : ℕ) → y < p.height → is_solid p x y ≡ is_solid w x (first + y)) where
  -- the cells of both are alike in the rows that are n rows from the cuts
  abbrev Alike : ℕ → (ℕ → ℕ → ℕ) → (ℕ → ℕ → ℕ) → Type 0
  Alike n at at' = (x y : ℕ) → IsFarFromCuts first n p w y → at x y ≡ at' x (first + y)

  same_parity : (y : ℕ) → is_odd y ≡ is_odd (first + y)
  same_parity y = ap (λ r. r == 1) (let e : y % 2 ≡ (first + y) % 2 = omega (arith, even) in e)

  -- a row that is one row farther
  nearer : (n y : ℕ) → IsFarFromCuts first (suc n) p w y → IsFarFromCuts first n p w y
  nearer n y far = record { row = far.row; above = λ h. omega (arith, far.above h); below = λ h. omega (arith, far.below h) }

  collided-alike : (n : ℕ) (chi chi' : ℕ → ℕ → Bool) (at at' : ℕ → ℕ → ℕ) → ((x y : ℕ) → chi x y ≡ chi' x (first + y)) →
      Alike n at at' → Alike n (collided gas p chi at) (collided gas w chi' at')
  collided-alike n chi chi' at at' bits alike x y far =
      ap (λ b. if b then 0 else gas.collide (at x y) (chi x y)) (solid x y far.row)
      ∙ ap (λ s. if is_solid w x (first + y) then 0 else gas.collide s (chi x y)) (alike x y far)
      ∙ ap (λ b. if is_solid w x (first + y) then 0 else gas.collide (at' x (first + y)) b) (bits x y)

  -- what comes from a neighbour, or back from where none is
  abbrev comes : ChannelModel → (ℕ → ℕ → ℕ) → Bool → ℕ → ℕ → Option ℕ → Bool
  comes c at back i x o = option_map_or (λ (u : ℕ × ℕ). if is_solid c u.0 u.1 then back else holds (at u.0 u.1) i) (option_map {U = ℕ × ℕ} (λ v. (x, v)) o) back

  comes-alike : (n i x : ℕ) (at at' : ℕ → ℕ → ℕ) (back : Bool) (y : ℕ) (m : Move) → Alike n at at' → Beside first p w within n y m →
      comes p at back i x (row_after p.height y m) ≡ comes w at' back i x (row_after w.height (first + y) m)
  comes-alike n i x at at' back y m alike (wall e e') = ap (comes p at back i x) e ∙ sym (ap (comes w at' back i x) e')
  comes-alike n i x at at' back y m alike (row v e e' far) =
      ap (comes p at back i x) e
      ∙ ap (λ b. if b then back else holds (at x v) i) (solid x v far.row)
      ∙ ap (λ s. if is_solid w x (first + v) then back else holds s i) (alike x v far)
      ∙ sym (ap (comes w at' back i x) e')

  arriving-alike : (n i x y : ℕ) (at at' : ℕ → ℕ → ℕ) → Alike n at at' → IsFarFromCuts first (suc n) p w y →
      arriving gas p at x y i ≡ arriving gas w at' x (first + y) i
  arriving-alike n i x y at at' alike far =
      let m : Move × Move = gas.step (gas.opposite i) (is_odd y) in
      ap (λ s. comes p at (holds s (gas.opposite i)) i (column_after p.width x m.0) (row_after p.height y m.1)) (alike x y (nearer n y far))
      ∙ ap (λ k. comes p at (holds (at' x (first + y)) (gas.opposite i)) i (column_after k x m.0) (row_after p.height y m.1)) wide
      ∙ comes-alike n i (column_after w.width x m.0) at at' (holds (at' x (first + y)) (gas.opposite i)) y m.1 alike (beside first p w within n y m.1 far)
      ∙ ap (λ b. let m' = gas.step (gas.opposite i) b in comes w at' (holds (at' x (first + y)) (gas.opposite i)) i (column_after w.width x m'.0) (row_after w.height (first + y) m'.1)) (same_parity y)

  streamed-alike : (n : ℕ) (at at' : ℕ → ℕ → ℕ) → Alike n at at' → Alike (suc n) (streamed gas p at) (streamed gas w at')
  streamed-alike n at at' alike x y far =
      ap (λ b. if b then 0 else set_of gas.dirs (arriving gas p at x y)) (solid x y far.row)
      ∙ ap (λ s. if is_solid w x (first + y) then 0 else s) (set_of-same gas.dirs _ _ (λ i _. arriving-alike n i x y at at' alike far))

  -- a cell of rows that are made by cells, past their end too
  cell-or-none : (wide high : ℕ) (at : ℕ → ℕ → ℕ) (x y : ℕ) → y < high → cell (rows_of wide high at) x y ≡ (if nat_lt x wide then at x y else 0)
  cell-or-none wide high at x y here = elim (cases_lt x wide) [
    | inl inside ↦ cell-made wide high at x y inside here ∙ grind (arith, nat_tests)
    | inr outside ↦
        ap (λ (r : List ℕ). get_or r x 0) (get_or-map-range_with_len (λ v. row_of wide (λ u. at u v)) 0 high y y [] here (omega arith))
        ∙ get_or_past (row_of wide (λ u. at u y)) x 0 (omega (arith, length-map-range_with_len (λ u. at u y) 0 wide)) ∙ grind (arith, nat_tests)
  ]

  next-alike : (n : ℕ) (chi chi' : ℕ → ℕ → Bool) (rows rows' : List (List ℕ)) → ((x y : ℕ) → chi x y ≡ chi' x (first + y)) →
      Alike n (cell rows) (cell rows') → Alike (suc n) (cell (next gas p chi rows)) (cell (next gas w chi' rows'))
  next-alike n chi chi' rows rows' bits alike x y far =
      cell-or-none p.width p.height (streamed gas p before) x y far.row
      ∙ ap (λ s. if nat_lt x p.width then s else 0) (streamed-alike n before before' (collided-alike n chi chi' (cell rows) (cell rows') bits alike) x y far)
      ∙ ap (λ k. if nat_lt x k then streamed gas w before' x (first + y) else 0) wide
      ∙ sym (cell-or-none w.width w.height (streamed gas w before') x (first + y) (omega (arith, far.row, within)))
    where
      before : ℕ → ℕ → ℕ
      before = collided gas p chi (cell rows)

      before' : ℕ → ℕ → ℕ
      before' = collided gas w chi' (cell rows')

pub generation-alike : (gas : Rules) (first : ℕ) (part whole : LatticeModel) (chi : ℕ → ℕ → ℕ → Bool) (start n x y : ℕ) →
    first % 2 ≡ 0 → IsPartFrom first part whole → IsFarFromCuts first n part.channel whole.channel y →
    cell (generation gas part.channel (λ g u v. chi g u (first + v)) start part.rows n) x y
    ≡ cell (generation gas whole.channel chi start whole.rows n) x (first + y)
generation-alike gas first part whole chi start zero x y even is far = is.cells x y far.row
generation-alike gas first part whole chi start (suc n) x y even is far =
    next-alike gas first even part.channel whole.channel is.wide (omega (arith, is.within)) is.solid n
    (λ u v. chi (start + n) u (first + v)) (chi (start + n)) _ _ (λ _ _. refl)
    (λ u v near. generation-alike gas first part whole chi start n u v even is near) x y far
