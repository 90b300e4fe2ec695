-- A row whose words were collided.
use Rattle.std.proofs.Common.{◌≡◌, ℕ, ◌/◌, ◌<◌, Bool, true, false, if◌then◌else◌, List, length, get_or, refl, sym, ap, ◌∙◌, subst, arith}
use Rattle.std.proofs.lemmas.Nat.{pow_pos}
use Rattle.std.proofs.lemmas.List.FromFn.{get_or-map-range_with_len, length-map-range_with_len}
use Rattle.gas_geom.specs.Gas.{holds}
use Rattle.gas_geom.specs.Lattice.{row_of}
use Rattle.gas_geom.proofs.Holds.{holds-zero}
use Rattle.gas_bits.specs.Words.{words_in, bit}
use Rattle.gas_bits.specs.Planes.{state}
use Rattle.gas_rows.specs.Inner.Planes.{ArePlanes}
use Rattle.gas_rows.specs.Planes.{cells_of}
use Rattle.gas_bits.proofs.Cells.{state-from, holds-state}
use Rattle.gas_rows.proofs.Cells.{cells-from}
use Rattle.gas_rows.proofs.Rows.{AreOf, wide, read, planes-other}

-- ---- a row of which each cell was collided, the cells past the width too
module _ (d : ℕ) (table : ℕ → Bool → ℕ) (none : (r : Bool) → table 0 r ≡ 0) (width : ℕ) (words row : List ℕ) (inside : ArePlanes d width words)
    (view : cells_of d width words ≡ row) (new : List ℕ) (n : ℕ) (chi solid : List ℕ) (en : n ≡ words_in width)
    (same_long : length new ≡ length words)
    (each : (y : ℕ) → y / 64 < n → state new n d y ≡ (if bit solid y then 0 else table (state words n d y) (bit chi y))) where
  each_here : (y : ℕ) → y / 64 < words_in width → state new (words_in width) d y
      ≡ (if bit solid y then 0 else table (state words (words_in width) d y) (bit chi y))
  each_here = subst (λ m. (y : ℕ) → y / 64 < m →
      state new m d y ≡ (if bit solid y then 0 else table (state words m d y) (bit chi y))) en each

  both_zero : (s : Bool) → ◌≡◌ {A = ℕ} (if s then 0 else 0) 0
  both_zero true = refl
  both_zero false = refl

  pub row-collided : AreOf d width new (row_of (length row) (λ x. if bit solid x then 0 else table (get_or row x 0) (bit chi x)))
  row-collided = record {
    planes = planes-other d width words row inside view new same_long (λ i x hi le lt.
        let blank : state words (words_in width) d x ≡ 0 =
        state-from words (words_in width) d x 0 (pow_pos d) (λ k hk. inside.clear k x hk le lt ∙ sym (holds-zero k)) in
        sym (holds-state new (words_in width) d x i hi)
        ∙ ap (λ s. holds s i) (each_here x (omega arith)
        ∙ ap (λ z. if bit solid x then 0 else z) (ap (λ z. table z (bit chi x)) blank ∙ none (bit chi x))
        ∙ both_zero (bit solid x))
        ∙ holds-zero i);
    cells =
        let e = wide d width words row inside view in
        cells-from d width new _ (length-map-range_with_len _ 0 (length row) ∙ e) (λ x hx.
        let lt : x < length row = omega arith in
        each_here x (omega arith)
        ∙ ap (λ s. if bit solid x then 0 else table s (bit chi x)) (read d width words row inside view x lt)
        ∙ sym (get_or-map-range_with_len _ 0 (length row) x x 0 lt (omega arith)));
  }
