-- Whole runs. The next lattice is a lattice again, so the number law holds from each generation to the next, and a run that is
-- cut in two is the whole run.
use Rattle.std.proofs.Common.{◌≡◌, ℕ, zero, suc, ◌+◌, ◌<◌, ◌^◌, Bool, true, false, if◌then◌else◌, List, [], length, get_or, ap, ◌∙◌, sym, refl, subst, arith, inl, inr}
use Rattle.std.proofs.lemmas.Bool.{cases_lt}
use Rattle.std.proofs.lemmas.List.{get_or_past}
use Rattle.std.proofs.lemmas.List.FromFn.{fill_by_all, get_or-map-range_with_len, length-map-range_with_len}
use Rattle.std.proofs.lemmas.Nat.{pow_pos}
use Rattle.gas_geom.specs.Gas.{Rules, IsGas}
use Rattle.gas_geom.specs.Channel.{ChannelModel, is_solid}
use Rattle.gas_geom.specs.Lattice.{cell, row_of, rows_of, IsLattice, arriving, collided, streamed, set_of, next, generation, count}
use Rattle.gas_geom.proofs.Holds.{set_of-lt}
use Rattle.gas_geom.proofs.Number.{count-next}

-- what holds of 0 and of each cell holds of every cell of rows that are made by cells
cell-rows_of : (P : ℕ → Type 0) (w h : ℕ) (at : ℕ → ℕ → ℕ) (x y : ℕ) → P 0 → (x < w → y < h → P (at x y)) → P (cell (rows_of w h at) x y)
cell-rows_of P w h at x y none here = elim (cases_lt y h) [
  | inl iny ↦
      let row = get_or-map-range_with_len (λ y'. row_of w (λ x'. at x' y')) 0 h y y [] iny (omega arith) in
      subst (λ (r : List ℕ). P (get_or r x 0)) (sym row) (elim (cases_lt x w) [
        | inl inx ↦ subst P (sym (get_or-map-range_with_len (λ x'. at x' y) 0 w x x 0 inx (omega arith))) (here inx iny)
        | inr out ↦ subst P (sym (get_or_past (row_of w (λ x'. at x' y)) x 0 (omega (arith, length-map-range_with_len (λ x'. at x' y) 0 w)))) none
      ])
  | inr out ↦
      let row = get_or_past (rows_of w h at) y [] (omega (arith, length-map-range_with_len (λ y'. row_of w (λ x'. at x' y')) 0 h)) in
      subst (λ (r : List ℕ). P (get_or r x 0)) (sym row) none
]

-- a cell of rows that are made by cells
pub cell-made : (w h : ℕ) (at : ℕ → ℕ → ℕ) (x y : ℕ) → x < w → y < h → cell (rows_of w h at) x y ≡ at x y
cell-made w h at x y inx iny =
    ap (λ (r : List ℕ). get_or r x 0) (get_or-map-range_with_len (λ v. row_of w (λ u. at u v)) 0 h y y [] iny (omega arith))
    ∙ get_or-map-range_with_len (λ u. at u y) 0 w x x 0 inx (omega arith)

-- rows that are made by the same cells
pub rows_of-same : (w h : ℕ) (f g : ℕ → ℕ → ℕ) → ((x y : ℕ) → x < w → y < h → f x y ≡ g x y) → rows_of w h f ≡ rows_of w h g
rows_of-same w h f g same =
    fill_by_all (λ y. row_of w (λ x. g x y)) (rows_of w h f) h [] (length-map-range_with_len (λ y. row_of w (λ x. f x y)) 0 h)
    (λ y iny. get_or-map-range_with_len (λ v. row_of w (λ x. f x v)) 0 h y y [] iny (omega arith)
    ∙ fill_by_all (λ x. g x y) (row_of w (λ x. f x y)) w 0 (length-map-range_with_len (λ x. f x y) 0 w)
    (λ x inx. get_or-map-range_with_len (λ u. f u y) 0 w x x 0 inx (omega arith) ∙ same x y inx iny))

-- the next lattice is one, whatever the rows before it
pub IsLattice-next : (gas : Rules) → IsGas gas → (c : ChannelModel) (chi : ℕ → ℕ → Bool) (rows : List (List ℕ)) → IsLattice gas c (next gas c chi rows)
IsLattice-next gas laws c chi rows = record {
  high = length-map-range_with_len (λ y. row_of c.width (λ x. at x y)) 0 c.height;
  wide = λ y h.
      ap (λ (r : List ℕ). length r) (get_or-map-range_with_len (λ y'. row_of c.width (λ x. at x y')) 0 c.height y y [] h (omega arith))
      ∙ length-map-range_with_len (λ x. at x y) 0 c.width;
  sets = λ x y. cell-rows_of (λ v. v < 2 ^ gas.dirs) c.width c.height at x y (pow_pos gas.dirs) (λ _ _. small x y (is_solid c x y));
  empty = λ x y e. cell-rows_of (λ v. v ≡ 0) c.width c.height at x y refl (λ _ _. ap (λ (b : Bool). if b then 0 else set_of gas.dirs (arriving gas c before x y)) e);
}
  where
    before : ℕ → ℕ → ℕ
    before = collided gas c chi (cell rows)

    at : ℕ → ℕ → ℕ
    at = streamed gas c before

    small : (x y : ℕ) (b : Bool) → (if b then 0 else set_of gas.dirs (arriving gas c before x y)) < 2 ^ gas.dirs
    small x y true = pow_pos gas.dirs
    small x y false = set_of-lt gas.dirs (arriving gas c before x y)

pub IsLattice-generation : (gas : Rules) → IsGas gas → (c : ChannelModel) (chi : ℕ → ℕ → ℕ → Bool) (start : ℕ) (rows : List (List ℕ)) → IsLattice gas c rows →
    (n : ℕ) → IsLattice gas c (generation gas c chi start rows n)
IsLattice-generation gas laws c chi start rows lattice zero = lattice
IsLattice-generation gas laws c chi start rows lattice (suc n) = IsLattice-next gas laws c (chi (start + n)) (generation gas c chi start rows n)

-- each generation has as many particles as the first
pub count-generation : (gas : Rules) → IsGas gas → (c : ChannelModel) (chi : ℕ → ℕ → ℕ → Bool) (start : ℕ) (rows : List (List ℕ)) → IsLattice gas c rows →
    (n : ℕ) → count gas (generation gas c chi start rows n) ≡ count gas rows
count-generation gas laws c chi start rows lattice zero = refl
count-generation gas laws c chi start rows lattice (suc n) =
    count-next gas laws c (chi (start + n)) (generation gas c chi start rows n) (IsLattice-generation gas laws c chi start rows lattice n)
    ∙ count-generation gas laws c chi start rows lattice n

-- a run that is cut in two is the whole run
pub generation-add : (gas : Rules) (c : ChannelModel) (chi : ℕ → ℕ → ℕ → Bool) (start : ℕ) (rows : List (List ℕ)) (m n : ℕ) →
    generation gas c chi (start + m) (generation gas c chi start rows m) n ≡ generation gas c chi start rows (m + n)
generation-add gas c chi start rows m zero = ap (generation gas c chi start rows) (let e : m ≡ m + 0 = omega arith in e)
generation-add gas c chi start rows m (suc n) =
    ap (λ k. next gas c (chi k) (generation gas c chi (start + m) (generation gas c chi start rows m) n)) (let e : start + m + n ≡ start + (m + n) = omega arith in e)
    ∙ ap (next gas c (chi (start + (m + n)))) (generation-add gas c chi start rows m n)
    ∙ ap (generation gas c chi start rows) (let e : suc (m + n) ≡ m + suc n = omega arith in e)
