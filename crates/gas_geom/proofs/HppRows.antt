-- The rows of HPP. What moves along a row stays in it, where no cell of it is solid, and goes on to the other colour of the checkerboard, as the
-- next generation does. What moves across the rows has no eastward momentum.
use Rattle.std.proofs.Common.{◌≡◌, ℕ, zero, suc, ◌+◌, ◌%◌, ◌<◌, ◌^◌, Bool, true, false, if◌then◌else◌, Some, List, [], ◌∷◌, ◌==◌, ◌&&◌, ap, ◌∙◌, sym, refl, arith, eq-eqb, ℤ, pos, ◌+ℤ◌}
use Rattle.std.specs.Prelude.{sum_by}
use Rattle.std.specs.List.{range_with_len}
use Rattle.std.proofs.lemmas.Int.{ints}
use Rattle.std.proofs.lemmas.Bool.Decides.{nat_tests}
use Rattle.std.proofs.lemmas.Bool.{eqb-true, both_ways}
use borrow.Author.Differences.{up, down}
use Rattle.gas_geom.specs.declared.moves.Move.{Move}
use Rattle.gas_geom.specs.declared.moves.Move.TheVariants.{Back, Stay, On}
use Rattle.gas_geom.specs.Moves.{column_after}
use Rattle.gas_geom.specs.Laws.Trials.{IsGas-passed}
use Rattle.gas_geom.specs.Gas.{IsGas, momentum_of, directions_of, signed_sum_by}
use Rattle.gas_geom.specs.Hpp.{hpp}
use Rattle.gas_geom.specs.Channel.{ChannelModel, is_solid}
use Rattle.gas_geom.specs.Lattice.{IsLattice, cell, generation}
use Rattle.gas_geom.specs.HppRows.{Choice, every_cell, even_cells, odd_cells, eastward, IsKeptInRows}
use Rattle.gas_geom.proofs.Sums.{sum_below, sum_below-cong, sum_below-pick, when}
use Rattle.gas_geom.proofs.Places.{Place, Within}
use Rattle.gas_geom.proofs.Links.{meets, stays, comes, opposed, other_end, other_end-beside}
use Rattle.gas_geom.proofs.Momenta.{signed-is, part_of}
use Rattle.gas_geom.proofs.Weighted.{Weight, weight_at, weighed_sum, origin, kept, sum_by-below}
use Rattle.gas_geom.proofs.Arriving.{behind}
use Rattle.gas_geom.proofs.Staggered.{moves_on, one_if, column-parity}

abbrev laws : IsGas hpp
laws = IsGas-passed hpp refl

abbrev m : ℕ → ℤ
m i = (hpp.momentum i).0

-- a number that counts if a test holds
abbrev counted : Bool → ℤ → ℤ
counted b z = if b then z else pos 0

-- a sum of zeros
sum-none : {X : Type 0} (xs : List X) → signed_sum_by (λ _. pos 0) xs ≡ pos 0
sum-none [] = refl
sum-none (x ∷ xs) = sum-none xs

-- a sum of which one term is not 0
sum-one : (f : ℕ → ℤ) (r h : ℕ) → r < h → signed_sum_by (λ y. counted (r == y) (f y)) (range_with_len 0 h) ≡ f r
sum-one f r h within =
    omega (
      arith,
      ints,
      signed-is (λ y. counted (r == y) (f y)) (λ y. when (r == y) (up (f y))) (λ y. when (r == y) (down (f y))) (λ y. each (r == y) (f y)) (range_with_len 0 h),
      sum_by-below (λ y. when (r == y) (up (f y))) h ∙ sum_below-pick true r h (λ y. up (f y)) within,
      sum_by-below (λ y. when (r == y) (down (f y))) h ∙ sum_below-pick true r h (λ y. down (f y)) within,
    )
  where
    each : (b : Bool) (z : ℤ) → up (counted b z) + when b (down z) ≡ down (counted b z) + when b (up z)
    each true z = omega arith
    each false z = omega arith

-- the eastward momentum of a set, counted or not
part-counted : (b : Bool) (s : ℕ) → part_of hpp (λ i. counted b (m i)) s ≡ counted b (momentum_of hpp s).0
part-counted true s = refl
part-counted false s = sum-none (directions_of hpp s)

keeps-each : (b : Bool) (s : ℕ) (chi : Bool) → s < 2 ^ 4 → part_of hpp (λ i. counted b (m i)) (hpp.collide s chi) ≡ part_of hpp (λ i. counted b (m i)) s
keeps-each b s chi h =
    part-counted b (hpp.collide s chi) ∙ ap (λ (p : ℤ × ℤ). counted b p.0) (laws.collide_keeps_momentum s chi h) ∙ sym (part-counted b s)

counted-none : (a b : Bool) → counted a (counted b (pos 0)) ≡ pos 0
counted-none true true = refl
counted-none true false = refl
counted-none false b = refl

-- a step along a row, from a column to the one beside it
abbrev IsSideways : Move → Type 0
IsSideways along = moves_on along ≡ true

module _ (chosen : Choice) (c : ChannelModel) (r : ℕ) (free : (x : ℕ) → is_solid c x r ≡ false)
    (goes_on : (t x : ℕ) (along : Move) → x < c.width → IsSideways along → chosen (suc t) x ≡ chosen t (column_after c.width x along)) where
  -- the weight of a particle: its eastward momentum, if it is in a chosen cell of the row
  abbrev weight : Weight
  weight t x y i = counted (r == y) (counted (chosen t x) (m i))

  abbrev weight_of : ℕ → Place → ℤ
  weight_of t p = weight_at weight t p

  keeps : (t x y s : ℕ) (b : Bool) → s < 2 ^ 4 → part_of hpp (weight t x y) (hpp.collide s b) ≡ part_of hpp (weight t x y) s
  keeps t x y s b h = by (r == y)
    where
      by : (a : Bool) → part_of hpp (λ i. counted a (counted (chosen t x) (m i))) (hpp.collide s b) ≡ part_of hpp (λ i. counted a (counted (chosen t x) (m i))) s
      by true = keeps-each (chosen t x) s b h
      by false = sum-none (directions_of hpp (hpp.collide s b)) ∙ sym (sum-none (directions_of hpp s))

  abbrev before : Place → Place
  before p = origin hpp laws c p

  -- what moves across the rows weighs nothing, whether it is sent back or not
  across-rows : (t x y i : ℕ) → i < 4 → is_solid c x y ≡ false → m i ≡ pos 0 → m (hpp.opposite i) ≡ pos 0 → weight (suc t) x y i ≡ weight_of t (before (x, y, i))
  across-rows t x y i h fluid none none' =
      ap (λ z. counted (r == y) (counted (chosen (suc t) x) z)) none ∙ counted-none (r == y) (chosen (suc t) x) ∙ sym lost
    where
      p : Place
      p = (x, y, i)

      lost : weight_of t (before p) ≡ pos 0
      lost = elim (meets hpp laws c p) [
        | stays e arrives ↦
            ap (λ (q : Place). weight_of t (opposed hpp laws c q)) e
            ∙ ap (λ z. counted (r == y) (counted (chosen t x) z)) none' ∙ counted-none (r == y) (chosen t x)
        | comes _ u there e ↦
            ap (λ (q : Place). weight_of t (opposed hpp laws c q)) (other_end-beside hpp laws c p u false fluid there e)
            ∙ ap (λ j. counted (r == u.1) (counted (chosen t u.0) (m j))) (laws.opposite_twice i h)
            ∙ ap (λ z. counted (r == u.1) (counted (chosen t u.0) z)) none ∙ counted-none (r == u.1) (chosen t u.0)
      ]

  -- what moves along the row stays in it, since no cell of the row is solid
  along-row : (t x y i : ℕ) (along : Move) → x < c.width → i < 4 → is_solid c x y ≡ false → IsSideways along →
      behind hpp c x y i ≡ Some (column_after c.width x along, y) → weight (suc t) x y i ≡ weight_of t (before (x, y, i))
  along-row t x y i along inx h fluid sideways there = by (is_solid c u.0 u.1) refl
    where
      p : Place
      p = (x, y, i)

      u : ℕ × ℕ
      u = (column_after c.width x along, y)

      other-row : is_solid c u.0 y ≡ true → (a : Bool) → (r == y) ≡ a → a ≡ false
      other-row e true same = absurd (both_ways (is_solid c u.0 y) (ap (λ v. is_solid c u.0 v) (sym (eqb-true r y same)) ∙ free u.0) e)
      other-row e false same = refl

      by : (b : Bool) → is_solid c u.0 u.1 ≡ b → weight (suc t) x y i ≡ weight_of t (before p)
      by true e =
          let other : (r == y) ≡ false = other-row e (r == y) refl in
          ap (λ a. counted a (counted (chosen (suc t) x) (m i))) other
          ∙ sym (ap (λ a. counted a (counted (chosen t x) (m (hpp.opposite i)))) other)
          ∙ sym (ap (λ (q : Place). weight_of t (opposed hpp laws c q)) (other_end-beside hpp laws c p u true fluid there e))
      by false e =
          ap (λ b. counted (r == y) (counted b (m i))) (goes_on t x along inx sideways)
          ∙ ap (λ j. counted (r == y) (counted (chosen t u.0) (m j))) (sym (laws.opposite_twice i h))
          ∙ sym (ap (λ (q : Place). weight_of t (opposed hpp laws c q)) (other_end-beside hpp laws c p u false fluid there e))

  follows : (t : ℕ) (p : Place) → Within c.width c.height 4 p → is_solid c p.0 p.1 ≡ false → weight_of (suc t) p ≡ weight_of t (before p)
  follows t p h fluid = by p.2 h.2
    where
      by : (i : ℕ) → i < 4 → weight (suc t) p.0 p.1 i ≡ weight_of t (before (p.0, p.1, i))
      by zero h' = along-row t p.0 p.1 0 Back h.0 h' fluid refl refl
      by (suc zero) h' = across-rows t p.0 p.1 1 h' fluid refl refl
      by (suc (suc zero)) h' = along-row t p.0 p.1 2 On h.0 h' fluid refl refl
      by (suc (suc (suc zero))) h' = across-rows t p.0 p.1 3 h' fluid refl refl
      by (suc (suc (suc (suc i)))) h' = absurd (omega arith)

  -- the sum over all particles is the row's
  sum-is-row : (t : ℕ) (rows : List (List ℕ)) → r < c.height → weighed_sum hpp c weight t (cell rows) ≡ eastward chosen c r t rows
  sum-is-row t rows within =
      (λ q. signed_sum_by (λ y. in_row y (r == y) q) (range_with_len 0 c.height))
      ∙ sum-one (λ y. eastward chosen c y t rows) r c.height within
    where
      columns : List ℕ
      columns = range_with_len 0 c.width

      in_row : (y : ℕ) (a : Bool) →
          signed_sum_by (λ x. part_of hpp (λ i. counted a (counted (chosen t x) (m i))) (cell rows x y)) columns ≡ counted a (eastward chosen c y t rows)
      in_row y true = λ q. signed_sum_by (λ x. part-counted (chosen t x) (cell rows x y) q) columns
      in_row y false = (λ q. signed_sum_by (λ x. sum-none (directions_of hpp (cell rows x y)) q) columns) ∙ sum-none columns

  pub row-kept : (chi : ℕ → ℕ → ℕ → Bool) (start n : ℕ) (rows : List (List ℕ)) → IsLattice hpp c rows → r < c.height →
      eastward chosen c r (start + n) (generation hpp c chi start rows n) ≡ eastward chosen c r start rows
  row-kept chi start n rows lattice within =
      sym (sum-is-row (start + n) (generation hpp c chi start rows n) within)
      ∙ kept hpp laws c weight keeps follows chi start n rows lattice
      ∙ sum-is-row start rows within

pub every-kept : (c : ChannelModel) → IsKeptInRows every_cell c
every-kept c chi start n y rows lattice within free =
    row-kept every_cell c y free (λ t x along inx sideways. refl) chi start n rows lattice within

-- the colours of the checkerboard change places in a step along a row of an even width
other-colour : (t x u : ℕ) (k : ℕ) → (u + x) % 2 ≡ 1 → ((suc t + x) % 2 == k) ≡ ((t + u) % 2 == k)
other-colour t x u k odd = ap (λ n. n == k) (let e : (suc t + x) % 2 ≡ (t + u) % 2 = omega (arith, odd) in e)

beside-odd : (w x : ℕ) (along : Move) → w % 2 ≡ 0 → x < w → IsSideways along → (column_after w x along + x) % 2 ≡ 1
beside-odd w x along even inx sideways = column-parity w x (column_after w x along) along even inx refl ∙ ap one_if sideways

pub even-kept : (c : ChannelModel) → c.width % 2 ≡ 0 → IsKeptInRows even_cells c
even-kept c even chi start n y rows lattice within free =
    row-kept even_cells c y free (λ t x along inx sideways. other-colour t x (column_after c.width x along) 0 (beside-odd c.width x along even inx sideways)) chi start n rows lattice within

pub odd-kept : (c : ChannelModel) → c.width % 2 ≡ 0 → IsKeptInRows odd_cells c
odd-kept c even chi start n y rows lattice within free =
    row-kept odd_cells c y free (λ t x along inx sideways. other-colour t x (column_after c.width x along) 1 (beside-odd c.width x along even inx sideways)) chi start n rows lattice within
