-- A streamed cell, direction by direction, by the row that its particles come from.
use Rattle.std.proofs.Common.{◌≡◌, ℕ, ◌+◌, ◌-◌, ◌*◌, ◌/◌, ◌%◌, ◌^◌, ◌<◌, subst, option_map, Bool, true, false, if◌then◌else◌, Option, Some, None, List, take, drop, length, get_or, ap, ◌∙◌, sym, arith, refl, inl, inr}
use Rattle.std.specs.Option.{option_map_or}
use Rattle.std.proofs.lemmas.Bool.{cases_lt}
use Rattle.std.proofs.lemmas.Bool.Decides.{nat_tests}
use Rattle.std.proofs.lemmas.Nat.{pow_pos}
use Rattle.gas_geom.specs.Gas.{Rules, holds}
use Rattle.gas_geom.specs.declared.moves.Move.{Move}
use Rattle.gas_geom.specs.declared.moves.Move.TheVariants.{Back, Stay, On}
use Rattle.gas_geom.specs.Moves.{row_after, column_after}
use Rattle.gas_geom.specs.Laws.Steps.{is_odd, column_after-lt}
use Rattle.gas_geom.specs.Channel.{ChannelModel, is_solid}
use Rattle.gas_geom.specs.Lattice.{arriving, streamed, set_of}
use Rattle.gas_geom.proofs.Arriving.{arrives_from}
use Rattle.gas_geom.proofs.Holds.{set_of-lt, holds-set_of, holds-zero}
use Rattle.gas_bits.specs.Words.{words_in, bit}
use Rattle.gas_bits.specs.Planes.{has}
use Rattle.gas_bits.proofs.Cells.{part_get, whole_plane}
use Rattle.gas_bits.proofs.Fours.{each_lane}
use Rattle.gas_bits.proofs.ShiftedBits.{streamed_bit}
use Rattle.gas_rows.specs.Beside.{is_solid_beside}
use Rattle.gas_rows.specs.Planes.{cells_of}
use Rattle.gas_rows.specs.Streaming.{AreRowsAbout, IsRowAt, AreWordsAbout}
use Rattle.gas_rows.specs.declared.stream.Neighbourhood.{Neighbourhood}
use Rattle.gas_rows.specs.Inner.Beside.{row_beside}
use Rattle.gas_rows.specs.Inner.Streaming.{AreFluidRowsAbout}
use Rattle.gas_rows.proofs.Cells.{holds-cells}

-- what a streamed cell holds
holds-streamed : (gas : Rules) (c : ChannelModel) (at : ℕ → ℕ → ℕ) (x y i : ℕ) → i < gas.dirs
    → holds (streamed gas c at x y) i ≡ (if is_solid c x y then false else arriving gas c at x y i)
holds-streamed gas c at x y i h = by (is_solid c x y)
  where
    by : (solid : Bool) → holds (if solid then 0 else set_of gas.dirs (arriving gas c at x y)) i ≡ (if solid then false else arriving gas c at x y i)
    by true = holds-zero i
    by false = holds-set_of gas.dirs (arriving gas c at x y) i h

by_cases : (s t own met back came back' came' : Bool) → own ≡ s → met ≡ t → (s ≡ false → back ≡ back') → (t ≡ false → came ≡ came')
    → streamed_bit came met back own ≡ (if s then false else if t then back' else came')
by_cases s t own met back came back' came' eo em hb hc = grind arith

pub streamed-lt : (gas : Rules) (c : ChannelModel) (at : ℕ → ℕ → ℕ) (x y : ℕ) → streamed gas c at x y < 2 ^ gas.dirs
streamed-lt gas c at x y = by (is_solid c x y)
  where
    by : (solid : Bool) → (if solid then 0 else set_of gas.dirs (arriving gas c at x y)) < 2 ^ gas.dirs
    by true = pow_pos gas.dirs
    by false = set_of-lt gas.dirs (arriving gas c at x y)

-- ---- the row beside
after_move : (c : ChannelModel) (at : ℕ → ℕ → ℕ) (y v : ℕ) (up mid down : List ℕ) (m : Move) → row_after c.height y m ≡ Some v
    → AreRowsAbout c at y up mid down → IsRowAt c at v (row_beside m up mid down)
after_move c at y v up mid down Back there rows =
    let some : 0 < y = grind (arith, nat_tests) in
    subst (λ k. IsRowAt c at k up) (let e : y - 1 ≡ v = grind (arith, nat_tests) in e) (rows.up_is some)
after_move c at y v up mid down Stay there rows = subst (λ k. IsRowAt c at k mid) (let e : y ≡ v = grind (arith, nat_tests) in e) rows.mid_is
after_move c at y v up mid down On there rows =
    let more : y + 1 < c.height = grind (arith, nat_tests) in
    subst (λ k. IsRowAt c at k down) (let e : y + 1 ≡ v = grind (arith, nat_tests) in e) (rows.down_is more)

-- ---- one direction of a cell
-- from what the four words say of it, where past a wall all cells are solid
pub streamed_there : (gas : Rules) (c : ChannelModel) (at : ℕ → ℕ → ℕ) (x y i : ℕ) (up mid down : List ℕ) (came met back own : Bool) → i < gas.dirs → x < c.width
    → AreRowsAbout c at y up mid down
    → let m : Move × Move = gas.step (gas.opposite i) (is_odd y) in
    let u : ℕ = column_after c.width x m.0 in
    came ≡ holds (get_or (row_beside m.1 up mid down) u 0) i → met ≡ is_solid_beside c u y m.1
    → (is_solid c x y ≡ false → back ≡ holds (at x y) (gas.opposite i)) → own ≡ is_solid c x y
    → streamed_bit came met back own ≡ holds (streamed gas c at x y) i
streamed_there gas c at x y i up mid down came met back own direction inside rows ec em eb eo = go (row_after c.height y m.1) refl em
  where
    m : Move × Move
    m = gas.step (gas.opposite i) (is_odd y)

    u : ℕ
    u = column_after c.width x m.0

    arrived : (o : Option ℕ) → row_after c.height y m.1 ≡ o
        → (if is_solid c x y then false else arrives_from gas c at x y i (option_map {U = ℕ × ℕ} (λ y'. (u, y')) o)) ≡ holds (streamed gas c at x y) i
    arrived o there =
        ap (λ (p : Option ℕ). if is_solid c x y then false else arrives_from gas c at x y i (option_map {U = ℕ × ℕ} (λ y'. (u, y')) p)) (sym there)
        ∙ sym (holds-streamed gas c at x y i direction)

    go : (o : Option ℕ) → row_after c.height y m.1 ≡ o → met ≡ option_map_or (is_solid c u) o true
        → streamed_bit came met back own ≡ holds (streamed gas c at x y) i
    go None there solid =
        by_cases (is_solid c x y) true own met back came (holds (at x y) (gas.opposite i)) came eo solid eb (λ _. refl) ∙ arrived None there
    go (Some v) there solid =
        by_cases (is_solid c x y) (is_solid c u v) own met back came (holds (at x y) (gas.opposite i)) (holds (at u v) i) eo solid eb
        (λ fluid. ec ∙ ap (λ s. holds s i) (after_move c at y v up mid down m.1 there rows u (column_after-lt c.width x m.0 inside) fluid))
        ∙ arrived (Some v) there

-- ---- the words of a direction
pub plane-bit : (ws : List ℕ) (dirs n i u : ℕ) → length ws ≡ dirs * n → i < dirs → u / 64 < n → bit (take n (drop (i * n) ws)) u ≡ has ws n i u
unfolding bit has
plane-bit ws dirs n i u long lt within =
    ap (λ w. holds w (u % 64)) (part_get ws (i * n) n (u / 64) within (omega (arith, long, whole_plane n dirs i lt)))

pub plane-state : (ws : List ℕ) (dirs width i u : ℕ) → length ws ≡ dirs * words_in width → i < dirs → u < width
    → bit (take (words_in width) (drop (i * words_in width) ws)) u ≡ holds (get_or (cells_of dirs width ws) u 0) i
plane-state ws dirs width i u long lt within =
    plane-bit ws dirs (words_in width) i u long lt (omega (arith, within)) ∙ sym (holds-cells dirs width ws i u lt within)

-- ---- the one of three rows that a move leads to
pub beside-cells : (dirs width : ℕ) (m : Move) (a b c : List ℕ)
    → cells_of dirs width (row_beside m a b c) ≡ row_beside m (cells_of dirs width a) (cells_of dirs width b) (cells_of dirs width c)
beside-cells dirs width Back a b c = refl
beside-cells dirs width Stay a b c = refl
beside-cells dirs width On a b c = refl

pub beside-length : (n : ℕ) (m : Move) (a b c : List ℕ) → length a ≡ n → length b ≡ n → length c ≡ n → length (row_beside m a b c) ≡ n
beside-length n Back a b c ea eb ec = ea
beside-length n Stay a b c ea eb ec = eb
beside-length n On a b c ea eb ec = ec

pub beside-solid : (dirs : ℕ) (c : ChannelModel) (at : ℕ → ℕ → ℕ) (n : Neighbourhood) (m : Move) (x : ℕ) → AreWordsAbout dirs c at n → x < c.width
    → bit (row_beside m n.solid_above.now n.solid_middle.now n.solid_below.now) x ≡ is_solid_beside c x n.y m
beside-solid dirs c at n Back x about lt = about.solid_above x lt
beside-solid dirs c at n Stay x about lt = about.solid_middle x lt
beside-solid dirs c at n On x about lt = about.solid_below x lt

-- where no cell of the three rows is solid
pub fluid-about : (dirs : ℕ) (c : ChannelModel) (at : ℕ → ℕ → ℕ) (n : Neighbourhood) → n.all_fluid ≡ true → AreWordsAbout dirs c at n
    → AreFluidRowsAbout dirs c at n.width n.y n.above.now n.middle.now n.below.now
fluid-about dirs c at n fluid about = record {
  wide = about.wide;
  rows = about.rows;
  fluid_above = λ x h. sym (about.solid_above x h) ∙ n.fluid_above fluid x;
  fluid_middle = λ x h. sym (about.solid_middle x h) ∙ n.fluid_middle fluid x;
  fluid_below = λ x h. sym (about.solid_below x h) ∙ n.fluid_below fluid x;
}

pub beside-fluid : (m : Move) (a b c : List ℕ) (x : ℕ) → bit a x ≡ false → bit b x ≡ false → bit c x ≡ false → bit (row_beside m a b c) x ≡ false
beside-fluid Back a b c x ea eb ec = ea
beside-fluid Stay a b c x ea eb ec = eb
beside-fluid On a b c x ea eb ec = ec

-- ---- all directions
pub each_of_eight : (P : ℕ → Type 0) → P 0 → P 1 → P 2 → P 3 → P 4 → P 5 → P 6 → P 7 → (i : ℕ) → i < 8 → P i
each_of_eight P p0 p1 p2 p3 p4 p5 p6 p7 i h = elim (cases_lt i 4) [
  | inl low ↦ each_lane P p0 p1 p2 p3 i low
  | inr high ↦ subst P (let e : 4 + (i - 4) ≡ i = omega (arith, high) in e) (each_lane (λ k. P (4 + k)) p4 p5 p6 p7 (i - 4) (omega (arith, h, high)))
]
