-- Printed cells, read back.
use Rattle.std.proofs.Common.{◌≡◌, ℕ, zero, suc, ◌+◌, ◌*◌, ◌/◌, ◌%◌, ◌<◌, ◌≤◌, ◌==◌, Bool, true, false, ◌&&◌, List, [], ◌∷◌, length, get_or, Some, None, is_none, codes, nat_eq, nat_lt, ap, ap₂, sym, ◌∙◌, refl, arith, if◌then◌else◌}
use Rattle.std.specs.Fmt.{digit_glyph}
use Rattle.std.specs.Option.{option_eq}
use Rattle.std.specs.List.{find, range_with_len}
use Rattle.std.specs.Str.{bytes_eq}
use Rattle.std.proofs.lemmas.Bool.{agree_below_at, eqb-true, lt-ltb}
use Rattle.std.proofs.lemmas.Bool.Decides.{nat_tests}
use Rattle.gas_geom.specs.Channel.{ChannelModel, is_solid}
use Rattle.gas_geom.specs.Lattice.{cell}
use Rattle.gas_cells.specs.Cells.{cell_text, row_cells}
use Rattle.gas_cells.proofs.Pairs.{cell_text-long, texts, character, length-row_cells}
use Rattle.gas_cells.specs.Reading.{digit_of, state_of, cell_of, cell_at, bad_column}
use Rattle.gas_cells.proofs.Columns.{find-next}
use Rattle.gas_cells.proofs.Digits.{solid_cell, fluid, same_option}

-- a digit is read back, and is no mark
digit_of-glyph : (d : ℕ) → d < 16 → digit_of (digit_glyph false d) ≡ Some d
unfolding digit_of
digit_of-glyph d h = same_option _ _ (agree_below_at (λ d. option_eq nat_eq (digit_of (digit_glyph false d)) (Some d)) (λ _. true) 16 d refl h)

no_mark : (mark d : ℕ) → mark < 48 → d < 16 → (digit_glyph false d == mark) ≡ false
no_mark mark d low h = let above : 48 ≤ digit_glyph false d = least d in grind (arith, nat_tests)
  where
    least-if : (d : ℕ) (b : Bool) → 48 ≤ (if b then 48 + d else 87 + d)
    least-if d true = omega arith
    least-if d false = omega arith

    least : (d : ℕ) → 48 ≤ digit_glyph false d
    least d = least-if d (nat_lt d 10)

differs : (a b mark : ℕ) → (a == mark) ≡ false → bytes_eq (a ∷ b ∷ []) (mark ∷ mark ∷ []) ≡ false
differs a b mark e = ap (λ (t : Bool). t && ((b == mark) && true)) e

digits_read : (states state : ℕ) → state < states → states ≤ 256
    → cell_of states (digit_glyph false (state / 16)) (digit_glyph false (state % 16)) ≡ Some (fluid state)
unfolding cell_of
digits_read states state below few =
    let high : state / 16 < 16 = omega (arith, below, few) in
    let low : state % 16 < 16 = omega arith in
    let whole : state / 16 * 16 + state % 16 ≡ state = omega arith in
    let a : ℕ = digit_glyph false (state / 16) in
    let b : ℕ = digit_glyph false (state % 16) in
    ap₂ (λ (s : Bool) (e : Bool). if s then Some solid_cell else if e then Some (fluid 0) else state_of states (digit_of a) (digit_of b))
    (differs a b 35 (no_mark 35 _ (omega arith) high)) (differs a b 46 (no_mark 46 _ (omega arith) high))
    ∙ ap₂ (state_of states) (digit_of-glyph _ high) (digit_of-glyph _ low)
    ∙ ap (λ n. if nat_lt n states then Some (fluid n) else None) whole
    ∙ ap (λ (t : Bool). if t then Some (fluid state) else None) (lt-ltb state states below)

abbrev text_if : Bool → Bool → ℕ → List ℕ
text_if solid empty state =
    if solid then codes "##" else if empty then codes ".." else digit_glyph false (state / 16) ∷ digit_glyph false (state % 16) ∷ []

solid_read : (states : ℕ) → cell_of states 35 35 ≡ Some solid_cell
unfolding cell_of
solid_read states = refl

empty_read : (states : ℕ) → cell_of states 46 46 ≡ Some (fluid 0)
unfolding cell_of
empty_read states = refl

cell_of-if : (states state : ℕ) (solid empty : Bool) → state < states → states ≤ 256 → (state == 0) ≡ empty → (solid ≡ true → state ≡ 0)
    → cell_of states (get_or (text_if solid empty state) 0 0) (get_or (text_if solid empty state) 1 0) ≡ Some (record { solid = solid; state = state })
cell_of-if states state true empty below few is none = solid_read states ∙ ap (λ s. Some (record { solid = true; state = s })) (sym (none refl))
cell_of-if states state false true below few is none = empty_read states ∙ ap (λ s. Some (fluid s)) (sym (eqb-true state 0 is))
cell_of-if states state false false below few is none = digits_read states state below few

-- the cells of a row are read back from its characters, if its solid cells are empty
pub cell_at-row_cells : (channel : ChannelModel) (rows : List (List ℕ)) (states x y : ℕ) → x < channel.width → cell rows x y < states → states ≤ 256
    → (is_solid channel x y ≡ true → cell rows x y ≡ 0)
    → cell_at states (row_cells channel rows y) x ≡ Some (record { solid = is_solid channel x y; state = cell rows x y })
unfolding row_cells
cell_at-row_cells channel rows states x y within below few none =
    let f : ℕ → List ℕ = λ x. cell_text (is_solid channel x y) (cell rows x y) in
    let two : (x : ℕ) → length (f x) ≡ 2 = λ x. cell_text-long (is_solid channel x y) (cell rows x y) in
    let first : 2 * x ≡ 2 * x + 0 = omega arith in
    ap₂ (cell_of states) (ap (λ i. get_or (texts f 0 channel.width) i 0) first ∙ character f two channel.width x 0 within (omega arith)) (character f two channel.width x 1 within (omega arith))
    ∙ cell_of-if states (cell rows x y) (is_solid channel x y) (cell rows x y == 0) below few refl none

no_find : (p : ℕ → Bool) (n : ℕ) → ((k : ℕ) → k < n → p k ≡ false) → find p (range_with_len 0 n) ≡ None
no_find p zero each = refl
no_find p (suc n) each =
    ap (λ m. find p (range_with_len 0 m)) (let e : suc n ≡ n + 1 = omega arith in e)
    ∙ find-next p n (no_find p n (λ k below. each k (omega (arith, below)))) (each n (omega arith))

-- and each of its columns has a cell
pub bad_column-row_cells : (channel : ChannelModel) (rows : List (List ℕ)) (states y : ℕ) → ((x : ℕ) → cell rows x y < states) → states ≤ 256
    → ((x : ℕ) → is_solid channel x y ≡ true → cell rows x y ≡ 0) → bad_column states (row_cells channel rows y) ≡ None
bad_column-row_cells channel rows states y below few none =
    no_find (λ x. is_none (cell_at states (row_cells channel rows y) x)) _
    (λ x within. ap is_none (cell_at-row_cells channel rows states x y (omega (arith, within, length-row_cells channel rows y)) (below x) few (none x)))
