-- Sums over the particles of a lattice, each weighed by its time and place, that never change. A particle has in the next generation the
-- weight that it has now, whether it moves along its link or is sent back, and a collision keeps the sum over a cell.
use Rattle.std.proofs.Common.{◌≡◌, ℕ, zero, suc, ◌+◌, ◌*◌, ◌<◌, ◌^◌, Bool, true, false, if◌then◌else◌, List, ap, ◌∙◌, sym, refl, arith, ℤ, pos}
use Rattle.std.specs.Prelude.{sum_by}
use Rattle.std.specs.Int.{bit_at}
use Rattle.std.specs.List.{range_with_len}
use Rattle.std.proofs.lemmas.Int.{ints}
use Rattle.std.proofs.lemmas.List.{map-id}
use Rattle.std.proofs.lemmas.Nat.Bits.{bit_at-zero}
use borrow.Author.Differences.{up, down}
use Rattle.gas_geom.specs.Gas.{Rules, IsGas, signed_sum_by}
use Rattle.gas_geom.specs.Channel.{ChannelModel, is_solid}
use Rattle.gas_geom.specs.Lattice.{cell, set_of, IsLattice, arriving, collided, streamed, next, generation}
use Rattle.gas_geom.proofs.Sums.{sum_below, sum_below-cong, sum_by-row}
use Rattle.gas_geom.proofs.Places.{Place, Within, total, total-cong, IsSum-total}
use Rattle.gas_geom.proofs.Involution.{sum-involution}
use Rattle.gas_geom.proofs.Links.{held, opposed, other_end, other_end-within, other_end-twice, opposed-within, opposed-twice, held-streamed}
use Rattle.gas_geom.proofs.Momenta.{IsLess, signed-is, part_of, cell-is}
use Rattle.gas_geom.proofs.Runs.{cell-made, IsLattice-generation}

nothing-weighs : (n a b : ℕ) → n ≡ 0 → n * a ≡ n * b
nothing-weighs n a b e = ap (λ k. k * a) e ∙ (let z : 0 * a ≡ 0 * b = omega arith in z) ∙ sym (ap (λ k. k * b) e)

pub sum_by-below : (g : ℕ → ℕ) (n : ℕ) → sum_by g (range_with_len 0 n) ≡ sum_below n g
sum_by-below g n = ap (sum_by g) (sym (map-id (range_with_len 0 n))) ∙ sum_by-row g (λ k. k) n

-- the weight of a particle in direction i of the cell (x, y) in generation t
abbrev pub Weight : Type 0
Weight = ℕ → ℕ → ℕ → ℕ → ℤ

abbrev pub weight_at : Weight → ℕ → Place → ℤ
weight_at weight t p = weight t p.0 p.1 p.2

-- the sum over the particles of a lattice
abbrev pub weighed_sum : Rules → ChannelModel → Weight → ℕ → (ℕ → ℕ → ℕ) → ℤ
weighed_sum gas c weight t at =
    signed_sum_by (λ y. signed_sum_by (λ x. part_of gas (weight t x y) (at x y)) (range_with_len 0 c.width)) (range_with_len 0 c.height)

-- where what a place holds after streaming was before, with the direction that it had
abbrev pub origin : (gas : Rules) → IsGas gas → ChannelModel → Place → Place
origin gas laws c p = opposed gas laws c (other_end gas laws c p)

module _ (gas : Rules) (laws : IsGas gas) (c : ChannelModel) (weight : Weight)
    (keeps : (t x y s : ℕ) (b : Bool) → s < 2 ^ gas.dirs → part_of gas (weight t x y) (gas.collide s b) ≡ part_of gas (weight t x y) s)
    (follows : (t : ℕ) (p : Place) → Within c.width c.height gas.dirs p → is_solid c p.0 p.1 ≡ false →
    weight_at weight (suc t) p ≡ weight_at weight t (origin gas laws c p)) where
  abbrev whole : (Place → ℕ) → ℕ
  whole f = total c.width c.height gas.dirs f

  abbrev Here : Place → Type 0
  Here = Within c.width c.height gas.dirs

  abbrev weighed : (ℤ → ℕ) → ℕ → (ℕ → ℕ → ℕ) → Place → ℕ
  weighed f t at p = held at p * f (weight_at weight t p)

  -- it is what adds to it, less what takes from it
  sum-is : (t : ℕ) (at : ℕ → ℕ → ℕ) → IsLess (weighed_sum gas c weight t at) (whole (weighed up t at)) (whole (weighed down t at))
  sum-is t at =
      omega (
        arith,
        places up,
        places down,
        signed-is _ _ _ (λ y. signed-is _ (λ x. in_cell up x y) (λ x. in_cell down x y) (λ x. cell-is gas (weight t x y) (at x y)) (range_with_len 0 c.width)) (range_with_len 0 c.height),
      )
    where
      in_cell : (ℤ → ℕ) → ℕ → ℕ → ℕ
      in_cell f x y = sum_below gas.dirs (λ i. let p : Place = (x, y, i) in weighed f t at p)

      places : (f : ℤ → ℕ) → sum_by (λ y. sum_by (λ x. in_cell f x y) (range_with_len 0 c.width)) (range_with_len 0 c.height) ≡ whole (weighed f t at)
      places f =
          sum_by-below (λ y. sum_by (λ x. in_cell f x y) (range_with_len 0 c.width)) c.height
          ∙ sum_below-cong c.height _ _ (λ y _. sum_by-below (λ x. in_cell f x y) c.width)

  module _ (chi : ℕ → ℕ → Bool) (rows : List (List ℕ)) (lattice : IsLattice gas c rows) (t : ℕ) where
    abbrev after : ℕ → ℕ → ℕ
    after = collided gas c chi (cell rows)

    abbrev moved : ℕ → ℕ → ℕ
    moved = streamed gas c after

    from-origin : (f : ℤ → ℕ) → whole (λ p. held moved p * f (weight_at weight t (origin gas laws c p))) ≡ whole (weighed f t after)
    from-origin f =
        let sums = IsSum-total c.width c.height gas.dirs in
        total-cong c.width c.height gas.dirs _ _ (λ p h. ap (λ n. n * f (weight_at weight t (origin gas laws c p))) (held-streamed gas laws c after (λ x y e. ap (λ (b : Bool). if b then 0 else gas.collide (cell rows x y) (chi x y)) e) p h))
        ∙ sum-involution _ _ _ sums (other_end gas laws c) (other_end-within gas laws c) (other_end-twice gas laws c) (λ p. weighed f t after (opposed gas laws c p))
        ∙ sum-involution _ _ _ sums (opposed gas laws c) (opposed-within gas laws c) (opposed-twice gas laws c) (weighed f t after)

    moved-now : (f : ℤ → ℕ) (p : Place) → Here p → held moved p * f (weight_at weight (suc t) p) ≡ held moved p * f (weight_at weight t (origin gas laws c p))
    moved-now f p h = by (is_solid c p.0 p.1) refl
      where
        by : (b : Bool) → is_solid c p.0 p.1 ≡ b → held moved p * f (weight_at weight (suc t) p) ≡ held moved p * f (weight_at weight t (origin gas laws c p))
        by true e =
            nothing-weighs (held moved p) (f (weight_at weight (suc t) p)) (f (weight_at weight t (origin gas laws c p)))
            (ap (λ (b : Bool). bit_at (if b then 0 else set_of gas.dirs (arriving gas c after p.0 p.1)) p.2) e ∙ bit_at-zero p.2)
        by false e = ap (λ z. held moved p * f z) (follows t p h e)

    later-is : (f : ℤ → ℕ) → whole (weighed f (suc t) (cell (next gas c chi rows))) ≡ whole (weighed f t after)
    later-is f =
        total-cong c.width c.height gas.dirs _ _ (λ p h. ap (λ s. bit_at s p.2 * f (weight_at weight (suc t) p)) (cell-made c.width c.height moved p.0 p.1 h.0 h.1) ∙ moved-now f p h)
        ∙ from-origin f

    collision-kept : weighed_sum gas c weight t after ≡ weighed_sum gas c weight t (cell rows)
    collision-kept = λ r. signed_sum_by (λ y. signed_sum_by (λ x. each x y r) (range_with_len 0 c.width)) (range_with_len 0 c.height)
      where
        each : (x y : ℕ) → part_of gas (weight t x y) (after x y) ≡ part_of gas (weight t x y) (cell rows x y)
        each x y = by (is_solid c x y) refl
          where
            sum_of : ℕ → ℤ
            sum_of s = part_of gas (weight t x y) s

            by : (b : Bool) → is_solid c x y ≡ b → sum_of (after x y) ≡ sum_of (cell rows x y)
            by true e = ap (λ (b : Bool). sum_of (if b then 0 else gas.collide (cell rows x y) (chi x y))) e ∙ ap sum_of (sym (lattice.empty x y e))
            by false e = ap (λ (b : Bool). sum_of (if b then 0 else gas.collide (cell rows x y) (chi x y))) e ∙ keeps t x y (cell rows x y) (chi x y) (lattice.sets x y)

    next-kept : weighed_sum gas c weight (suc t) (cell (next gas c chi rows)) ≡ weighed_sum gas c weight t (cell rows)
    next-kept =
        omega (arith, ints, sum-is (suc t) (cell (next gas c chi rows)), later-is up, later-is down, sum-is t after) ∙ collision-kept

  pub kept : (chi : ℕ → ℕ → ℕ → Bool) (start n : ℕ) (rows : List (List ℕ)) → IsLattice gas c rows →
      weighed_sum gas c weight (start + n) (cell (generation gas c chi start rows n)) ≡ weighed_sum gas c weight start (cell rows)
  kept chi start zero rows lattice = ap (λ t. weighed_sum gas c weight t (cell rows)) (let e : start + 0 ≡ start = omega arith in e)
  kept chi start (suc n) rows lattice =
      ap (λ t. weighed_sum gas c weight t (cell (generation gas c chi start rows (suc n)))) (let e : start + suc n ≡ suc (start + n) = omega arith in e)
      ∙ next-kept (chi (start + n)) (generation gas c chi start rows n) (IsLattice-generation gas laws c chi start rows lattice n) (start + n)
      ∙ kept chi start n rows lattice
