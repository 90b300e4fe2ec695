-- Rows as the cells that their words hold.
use Rattle.std.proofs.Common.{◌≡◌, ℕ, ◌*◌, ◌/◌, ◌^◌, ◌<◌, ◌==◌, if◌then◌else◌, List, length, get_or, set, replicate, sym, ap, ◌∙◌, subst, arith, inl, inr}
use Rattle.std.proofs.lemmas.Bool.{cases_eq, cases_lt}
use Rattle.std.proofs.lemmas.List.{get_or_past, get_or-replicate, length-replicate, length-set, places}
use Rattle.std.proofs.lemmas.List.FromFn.{get_or-map-range_with_len, length-map-range_with_len}
use Rattle.std.proofs.lemmas.Bool.Decides.{nat_tests}
use Rattle.std.proofs.lemmas.Grind.{same_number_lists, get_or-set_at}
use Rattle.std.proofs.lemmas.Nat.{pow_pos}
use Rattle.gas_geom.specs.Gas.{holds}
use Rattle.gas_bits.specs.Words.{words_in}
use Rattle.gas_bits.specs.Planes.{has, state}
use Rattle.gas_rows.specs.Inner.Planes.{IsClear}
use Rattle.gas_rows.specs.Planes.{cells_of}
use Rattle.gas_geom.proofs.Holds.{holds-zero}
use Rattle.gas_bits.proofs.Cells.{whole_plane, place_in, has-blank, holds-state, state-from, state-lt, state-same}

-- ---- a row
pub length-cells : (d width : ℕ) (words : List ℕ) → length (cells_of d width words) ≡ width
unfolding cells_of
length-cells d width words = length-map-range_with_len _ 0 width

pub get_or-cells : (d width : ℕ) (words : List ℕ) (x : ℕ) → x < width →
    get_or (cells_of d width words) x 0 ≡ state words (words_in width) d x
unfolding cells_of
get_or-cells d width words x h =
    get_or-map-range_with_len (state words (words_in width) d) 0 width x x 0 h (omega arith)

-- a cell is a set of the directions
pub cells-lt : (d width : ℕ) (words : List ℕ) (x : ℕ) → get_or (cells_of d width words) x 0 < 2 ^ d
cells-lt d width words x = elim (cases_lt x width) [
  | inl lt ↦ subst (λ s. s < 2 ^ d) (sym (get_or-cells d width words x lt)) (state-lt words (words_in width) d x)
  | inr le ↦ subst (λ s. s < 2 ^ d) (sym (get_or_past (cells_of d width words) x 0 (omega (arith, length-cells d width words)))) (pow_pos d)
]

-- what follows from the width of a row without more
pub ruleset rows = (length-cells, cells-lt, whole_plane, place_in)

-- a row is known by its cells
pub cells-from : (d width : ℕ) (words xs : List ℕ) → length xs ≡ width →
    ((x : ℕ) → x < width → state words (words_in width) d x ≡ get_or xs x 0) → cells_of d width words ≡ xs
cells-from d width words xs len each =
    same_number_lists _ _ (length-cells d width words ∙ sym len) (λ k h.
    let lt : k < width = omega (arith, length-cells d width words) in get_or-cells d width words k lt ∙ each k lt)

pub width_of : (d width : ℕ) (words xs : List ℕ) → cells_of d width words ≡ xs → length xs ≡ width
width_of d width words xs e = ap length (sym e) ∙ length-cells d width words

-- what a cell holds, also one past the width
pub holds-cells : (d width : ℕ) (words : List ℕ) (i x : ℕ) → i < d → x < width →
    holds (get_or (cells_of d width words) x 0) i ≡ has words (words_in width) i x
holds-cells d width words i x hi hx =
    ap (λ s. holds s i) (get_or-cells d width words x hx) ∙ holds-state words (words_in width) d x i hi

pub holds-cells_all : (d width : ℕ) (words : List ℕ) → IsClear d width words → (i x : ℕ) → i < d →
    x < 64 * words_in width → has words (words_in width) i x ≡ holds (get_or (cells_of d width words) x 0) i
holds-cells_all d width words clear i x hi hx =
    let here = holds-cells d width words i x hi in
    let past = clear i x hi in
    grind (arith, places, length-cells, holds-zero)

pub IsClear-blank : (d width k : ℕ) (words : List ℕ) → words ≡ replicate k 0 → IsClear d width words
IsClear-blank d width k words e i x hi hw hx = ap (λ ws. has ws (words_in width) i x) e ∙ has-blank k (words_in width) i x

pub cells-blank : (d width k : ℕ) (words : List ℕ) → words ≡ replicate k 0 → cells_of d width words ≡ replicate width 0
cells-blank d width k words e =
    cells-from d width words (replicate width 0) (length-replicate width 0) (λ x h.
    state-from words (words_in width) d x 0 (pow_pos d) (λ i lt.
    ap (λ ws. has ws (words_in width) i x) e ∙ has-blank k (words_in width) i x ∙ sym (holds-zero i))
    ∙ sym (get_or-replicate width x 0 0 h))

-- all directions of cell x written
module _ (old words : List ℕ) (d width x s : ℕ) (hx : x < width) (hs : s < 2 ^ d)
    (each : (i y : ℕ) → i < d → y / 64 < words_in width →
    has words (words_in width) i y ≡ (if y == x then holds s i else has old (words_in width) i y)) where
  pub cells-written : cells_of d width words ≡ set (cells_of d width old) x s
  cells-written =
      cells-from d width words _ (length-set (cells_of d width old) x s ∙ length-cells d width old) (λ y hy.
      let here = λ (i : ℕ) (hi : i < d). each i y hi (omega arith) in
      elim (cases_eq y x) [
        | inl e ↦ let now = state-from words (words_in width) d y s hs (λ i hi. let w = here i hi in grind (arith, nat_tests)) in
            grind (arith, places, get_or-set_at, length-cells)
        | inr ne ↦ let now = state-same words old (words_in width) d y (λ i hi. let w = here i hi in grind (arith, nat_tests)) in
            grind (arith, places, get_or-set_at, length-cells, get_or-cells)
      ])

  pub IsClear-written : IsClear d width old → IsClear d width words
  IsClear-written clear i y hi hw hy = let here = each i y hi (omega arith) in let before = clear i y hi hw hy in grind (arith, nat_tests)
