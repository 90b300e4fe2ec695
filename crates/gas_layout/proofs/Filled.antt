-- Filling: the states, and a lattice whose first rows are filled.
use Rattle.std.proofs.Common.{◌≡◌, ℕ, zero, suc, ◌+◌, ◌^◌, ◌<◌, Bool, true, false, List, length, get_or, set, ap, sym, subst, ◌∙◌, refl, arith, inl, inr, if◌then◌else◌}
use Rattle.std.proofs.lemmas.Bool.{cases_lt}
use Rattle.std.proofs.lemmas.Bool.Decides.{nat_tests}
use Rattle.std.proofs.lemmas.List.{get_or_past}
use Rattle.std.proofs.lemmas.Nat.{pow_pos}
use Rattle.std.proofs.lemmas.List.FromFn.{get_or-map-range_with_len, length-map-range_with_len}
use Rattle.gas_geom.specs.Gas.{Rules}
use Rattle.gas_geom.specs.Lattice.{LatticeModel, set_of, row_of, empty_lattice}
use Rattle.gas_geom.proofs.Holds.{set_of-lt}
use Rattle.gas_rows.proofs.Lattices.{fluid_state}
use Rattle.gas_layout.specs.Layout.{channel_of, lattice_of, filled, filling}
use Rattle.gas_layout.specs.Inner.Steps.{filled_before}
use Rattle.gas_layout.proofs.Grids.{value-rows_of, rows_of-replicate, lattice_of-same}
use Rattle.gas_layout.proofs.Steps.{rows_above-next, rows_above-none, rows_above-all}

pub set_of-filled-below : (n seed rate width x y : ℕ) → set_of n (filled seed rate width x y) < 2 ^ n
set_of-filled-below n seed rate width x y = set_of-lt n (filled seed rate width x y)

filling-below : (gas : Rules) (seed rate width x y : ℕ) → filling gas seed rate width x y < 2 ^ gas.dirs
unfolding filling
filling-below gas seed rate width x y = set_of-filled-below gas.dirs seed rate width x y

-- the states of a row are sets of directions, and past its end 0
pub filling-small : (gas : Rules) (seed rate w y : ℕ) (states : List ℕ) → length states ≡ w
    → ((x : ℕ) → x < w → get_or states x 0 ≡ filling gas seed rate w x y) → (x : ℕ) → get_or states x 0 < 2 ^ gas.dirs
filling-small gas seed rate w y states wide same x = elim (cases_lt x w) [
  | inl within ↦ subst (λ n. n < 2 ^ gas.dirs) (sym (same x within)) (filling-below gas seed rate w x y)
  | inr past ↦ subst (λ n. n < 2 ^ gas.dirs) (sym (get_or_past states x 0 (omega (arith, wide, past)))) (pow_pos gas.dirs)
]

none-below : (n : ℕ) (f : ℕ → Bool) → ((i : ℕ) → f i ≡ false) → set_of n f ≡ 0
none-below zero f none = refl
none-below (suc n) f none = omega (arith, none-below n f none, ap (λ (b : Bool). if b then 2 ^ n else 0) (none n))

-- filling at the rate 0 puts no particle anywhere
filled-never : (seed width x y i : ℕ) → filled seed 0 width x y i ≡ false
filled-never seed width x y i = grind (arith, nat_tests)

filling-never : (gas : Rules) (seed rate width x y : ℕ) → rate ≡ 0 → filling gas seed rate width x y ≡ 0
unfolding filling
filling-never gas seed rate width x y none =
    rw none (none-below gas.dirs (filled seed 0 width x y) (filled-never seed width x y))

nothing : (b : Bool) (n : ℕ) → n ≡ 0 → 0 ≡ (if b then 0 else n)
nothing true n none = refl
nothing false n none = sym none

-- the lattice with states for the fluid cells of row y
abbrev pub with_states : LatticeModel → ℕ → List ℕ → LatticeModel
with_states l y states = record l { rows = set l.rows y (row_of l.channel.width (fluid_state l.channel y states)) }

-- an empty lattice by its solid cells
pub no_particles : (w h : ℕ) (solid : ℕ → ℕ → Bool) (l : LatticeModel) → l ≡ empty_lattice l.channel → l.channel ≡ channel_of w h solid
    → l ≡ lattice_of w h solid (λ _ _. 0)
no_particles w h solid l empty is =
    empty ∙ ap empty_lattice is
    ∙ ap (λ rows. record { channel = channel_of w h solid; rows = rows }) (rows_of-replicate w h (λ _ _. 0) 0 (λ _ _. refl))

module _ (gas : Rules) (seed rate w h : ℕ) (solid : ℕ → ℕ → Bool) where
  abbrev state : ℕ → ℕ → ℕ
  state u v = if solid u v then 0 else filling gas seed rate w u v

  pub set_states-filled_before : (y : ℕ) (states : List ℕ) → y < h
      → ((x : ℕ) → x < w → get_or states x 0 ≡ filling gas seed rate w x y)
      → with_states (filled_before gas seed rate w h solid y) y states ≡ filled_before gas seed rate w h solid (y + 1)
  unfolding filled_before
  set_states-filled_before y states in_rows same =
      let channel = channel_of w h solid in
      ap (λ rs. record { channel = channel; rows = rs })
      (rows_above-next w h state 0 y (row_of w (fluid_state channel y states)) in_rows (length-map-range_with_len (fluid_state channel y states) 0 w)
      (λ u in_row. get_or-map-range_with_len (fluid_state channel y states) 0 w u u 0 in_row (omega arith)
      ∙ ap (λ (b : Bool). if b then 0 else get_or states u 0) (value-rows_of w h solid u y false in_row in_rows)
      ∙ ap (λ s. if solid u y then 0 else s) (same u in_row)))

  filled_before-none : lattice_of w h solid (λ _ _. 0) ≡ filled_before gas seed rate w h solid 0
  unfolding filled_before
  filled_before-none = ap (λ rs. record { channel = channel_of w h solid; rows = rs })
      (sym (rows_of-replicate w h (λ _ _. 0) 0 (λ _ _. refl)) ∙ rows_above-none w h state 0)

  filled_before-all : filled_before gas seed rate w h solid h ≡ lattice_of w h solid state
  unfolding filled_before
  filled_before-all = ap (λ rs. record { channel = channel_of w h solid; rows = rs }) (rows_above-all w h state 0)

  pub width-filled_before : (y : ℕ) → (filled_before gas seed rate w h solid y).channel.width ≡ w
  unfolding filled_before
  width-filled_before y = refl

  pub height-filled_before : (y : ℕ) → (filled_before gas seed rate w h solid y).channel.height ≡ h
  unfolding filled_before
  height-filled_before y = refl

  -- a lattice with no particles that is filled row by row, and one that is filled at the rate 0
  pub filled-from_empty : (before after : LatticeModel) → before ≡ lattice_of w h solid (λ _ _. 0)
      → (before ≡ filled_before gas seed rate w h solid 0 → after ≡ filled_before gas seed rate w h solid h)
      → after ≡ lattice_of w h solid state
  filled-from_empty before after is fills = fills (is ∙ filled_before-none) ∙ filled_before-all

  pub filled-never_at_0 : (l : LatticeModel) → rate ≡ 0 → l ≡ lattice_of w h solid (λ _ _. 0) → l ≡ lattice_of w h solid state
  filled-never_at_0 l none is =
      is ∙ lattice_of-same w h solid solid (λ _ _. 0) state (λ u k _ _. refl)
      (λ u k _ _. nothing (solid u k) (filling gas seed rate w u k) (filling-never gas seed rate w u k none))
