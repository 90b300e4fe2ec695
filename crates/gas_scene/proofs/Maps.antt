-- The lattice of a map, row by row, and lemmas about rows that are not refused.
use Rattle.std.proofs.Common.{◌≡◌, inl, inr, subst, ℕ, ◌+◌, ◌*◌, ◌/◌, ◌%◌, ◌==◌, ◌<◌, ◌≤◌, Bool, true, false, not, List, [], ◌∷◌, map, length, get_or, set, Option, Some, None, pos, codes, nat_lt, ap, ap₂, sym, ◌∙◌, refl, arith, if◌then◌else◌}
use Rattle.std.specs.Prelude.{is_some, option_map, Ok, Err}
use Rattle.std.specs.Option.{option_or, unwrap_or}
use Rattle.std.specs.Str.{bytes_eq}
use Rattle.std.proofs.lemmas.Bool.{and_parts, cases_lt, ltb-true, false≢true}
use Rattle.std.proofs.lemmas.Bool.Decides.{nat_tests}
use Rattle.std.proofs.lemmas.Int.{ints}
use Rattle.std.proofs.lemmas.List.{length-map, get_or-map, get_or_past}
use Rattle.toml.specs.View.{view}
use Rattle.toml.specs.declared.value.Value.{Value}
use Rattle.gas_geom.specs.Channel.{free_channel}
use Rattle.gas_geom.specs.Lattice.{LatticeModel, empty_lattice}
use Rattle.gas_geom.specs.declared.size.TheConstants.{MOST_SIDE}
use Rattle.gas_cells.specs.declared.reading.Cell.{Cell}
use Rattle.gas_cells.specs.Reading.{digit_of, state_of, cell_of, cells_in, cell_or_empty, bad_column}
use Rattle.gas_layout.specs.Layout.{between}
use Rattle.gas_layout.proofs.Steps.{rows_above-next, rows_above-none, rows_above-all}
use Rattle.gas_scene.specs.declared.error.SceneError.{SceneError}
use Rattle.gas_scene.specs.declared.error.SceneError.TheVariants.{Range, RowLength, BadCell}
use Rattle.gas_scene.specs.Table.{text_of}
use Rattle.gas_scene.specs.Refusals.{has_wrong_length, row_length, bad_cell, map_refusal}
use Rattle.gas_scene.specs.Scene.{map_lattice}
use Rattle.gas_scene.specs.Inner.Maps.{as_result, map_cell, map_width, map_before, shape_refusal, IsMap, row_at}
use Rattle.gas_scene.proofs.Firsts.{none_passes, position-at, no_position}

-- row r, by its value
pub row_at-view : (vs : List Value) (r : ℕ) (v : Value) → r < length vs → v ≡ get_or vs r v → row_at (map text_of (map view vs)) r ≡ text_of (view v)
row_at-view vs r v within is =
    get_or-map text_of (map view vs) r (view v) [] (omega (arith, within, length-map vs view)) ∙ ap text_of (get_or-map view vs r v (view v) within ∙ ap view (sym is))

pub length-rows : (vs : List Value) → length (map text_of (map view vs)) ≡ length vs
length-rows vs = length-map (map view vs) text_of ∙ length-map vs view

abbrev pub empty : Cell
empty = record { solid = false; state = 0 }

-- what is true of a solid cell, of an empty one and of each state, is true of each cell as it is read
module _ (P : Cell → Type 0) (states : ℕ) (solid : P (record { solid = true; state = 0 })) (none : P empty)
    (state : (n : ℕ) → n < states → P (record { solid = false; state = n })) where
  of_number : (n : ℕ) (b : Bool) → nat_lt n states ≡ b → P (unwrap_or (if b then Some (record { solid = false; state = n }) else None) empty)
  of_number n true is = state n (ltb-true n states is)
  of_number n false is = none

  of_digits : (high low : Option ℕ) → P (unwrap_or (state_of states high low) empty)
  of_digits None low = none
  of_digits (Some high) None = none
  of_digits (Some high) (Some low) = of_number (high * 16 + low) _ refl

  of_marks : (marked dots : Bool) (o : Option Cell) → P (unwrap_or o empty)
      → P (unwrap_or (if marked then Some (record { solid = true; state = 0 }) else if dots then Some empty else o) empty)
  of_marks true dots o rest = solid
  of_marks false true o rest = none
  of_marks false false o rest = rest

  each_cell : (row : List ℕ) (x : ℕ) → P (cell_or_empty states row x)
  unfolding cell_of
  each_cell row x =
      let a : ℕ = get_or row (2 * x) 0 in
      let b : ℕ = get_or row (2 * x + 1) 0 in
      of_marks (bytes_eq (a ∷ b ∷ []) (codes "##")) (bytes_eq (a ∷ b ∷ []) (codes "..")) _ (of_digits (digit_of a) (digit_of b))

cell-within : (states : ℕ) (row : List ℕ) (x : ℕ) → 0 < states → (cell_or_empty states row x).state < states
cell-within states row x some = each_cell (λ c. c.state < states) states some some (λ n lt. lt) row x

solid-empty : (states : ℕ) (row : List ℕ) (x : ℕ) → (cell_or_empty states row x).solid ≡ true → (cell_or_empty states row x).state ≡ 0
solid-empty states row x =
    each_cell (λ c. c.solid ≡ true → c.state ≡ 0) states (λ _. refl) (λ is. absurd (false≢true is)) (λ n lt is. absurd (false≢true is)) row x

-- a mask and states with the cells of row y of a map
pub record IsRow (states : ℕ) (rows : List (List ℕ)) (y : ℕ) (mask : List Bool) (sets : List ℕ) : Type 0 where
  pub wide : length mask ≡ map_width rows
  pub as_wide : length sets ≡ map_width rows
  pub solid : (x : ℕ) → x < map_width rows → get_or mask x false ≡ (map_cell states rows x y).solid
  pub state : (x : ℕ) → x < map_width rows → get_or sets x 0 ≡ (map_cell states rows x y).state

-- a mask and states that were read from the characters of a row
pub IsRow-read : (states : ℕ) (rows : List (List ℕ)) (y : ℕ) (row : List ℕ) (mask : List Bool) (sets : List ℕ) → IsMap rows → y < length rows
    → row ≡ row_at rows y → length mask ≡ cells_in row → length sets ≡ cells_in row
    → ((x : ℕ) → x < cells_in row → get_or mask x false ≡ (cell_or_empty states row x).solid)
    → ((x : ℕ) → x < cells_in row → get_or sets x 0 ≡ (cell_or_empty states row x).state) → IsRow states rows y mask sets
IsRow-read states rows y row mask sets map in_rows here wide as_wide solid state =
    let width : cells_in row ≡ map_width rows = ap cells_in here ∙ map.wide y in_rows in
    record {
      wide = wide ∙ width;
      as_wide = as_wide ∙ width;
      solid = λ x lt. solid x (omega (arith, lt, width)) ∙ ap (λ r. (cell_or_empty states r x).solid) here;
      state = λ x lt. state x (omega (arith, lt, width)) ∙ ap (λ r. (cell_or_empty states r x).state) here;
    }

pub IsRow-within : (states : ℕ) (rows : List (List ℕ)) (y : ℕ) (mask : List Bool) (sets : List ℕ) → IsRow states rows y mask sets → 0 < states
    → (x : ℕ) → get_or sets x 0 < states
IsRow-within states rows y mask sets is some x = elim (cases_lt x (map_width rows)) [
  | inl lt ↦ subst (λ s. s < states) (sym (is.state x lt)) (cell-within states (row_at rows y) x some)
  | inr le ↦ subst (λ s. s < states) (sym (get_or_past sets x 0 (omega (arith, le, is.as_wide)))) some
]

pub IsRow-empty : (states : ℕ) (rows : List (List ℕ)) (y : ℕ) (mask : List Bool) (sets : List ℕ) → IsRow states rows y mask sets
    → (x : ℕ) → get_or mask x false ≡ true → get_or sets x 0 ≡ 0
IsRow-empty states rows y mask sets is x solid = elim (cases_lt x (map_width rows)) [
  | inl lt ↦ is.state x lt ∙ solid-empty states (row_at rows y) x (sym (is.solid x lt) ∙ solid)
  | inr le ↦ get_or_past sets x 0 (omega (arith, le, is.as_wide))
]

abbrev pub with_row : LatticeModel → ℕ → List Bool → List ℕ → LatticeModel
with_row l y mask row = record { channel = record l.channel { solid = set l.channel.solid y mask }; rows = set l.rows y row }

module _ (states : ℕ) (rows : List (List ℕ)) where
  abbrev solid_at : ℕ → ℕ → Bool
  solid_at u v = (map_cell states rows u v).solid

  abbrev state_at : ℕ → ℕ → ℕ
  state_at u v = (map_cell states rows u v).state

  pub width-map_before : (y : ℕ) → (map_before states rows y).channel.width ≡ map_width rows
  unfolding map_before
  width-map_before y = refl

  pub height-map_before : (y : ℕ) → (map_before states rows y).channel.height ≡ length rows
  unfolding map_before
  height-map_before y = refl

  pub map_before-next : (y : ℕ) (mask : List Bool) (row : List ℕ) → y < length rows → IsRow states rows y mask row
      → with_row (map_before states rows y) y mask row ≡ map_before states rows (y + 1)
  unfolding map_before
  map_before-next y mask row in_rows is =
      ap₂ (λ gs rs. record { channel = record { width = map_width rows; height = length rows; solid = gs }; rows = rs })
      (rows_above-next (map_width rows) (length rows) solid_at false y mask in_rows is.wide is.solid)
      (rows_above-next (map_width rows) (length rows) state_at 0 y row in_rows is.as_wide is.state)

  pub map_before-none : empty_lattice (free_channel (map_width rows) (length rows)) ≡ map_before states rows 0
  unfolding map_before
  map_before-none =
      ap₂ (λ gs rs. record { channel = record { width = map_width rows; height = length rows; solid = gs }; rows = rs })
      (rows_above-none (map_width rows) (length rows) solid_at false) (rows_above-none (map_width rows) (length rows) state_at 0)

  pub map_before-all : map_before states rows (length rows) ≡ map_lattice states rows
  unfolding map_before map_lattice
  map_before-all =
      ap₂ (λ gs rs. record { channel = record { width = map_width rows; height = length rows; solid = gs }; rows = rs })
      (rows_above-all (map_width rows) (length rows) solid_at false) (rows_above-all (map_width rows) (length rows) state_at 0)

pub as_result-none : (o : Option SceneError) → as_result o ≡ Ok tt → o ≡ None
as_result-none None ok = refl
as_result-none (Some e) ok = absurd (cc)

pub as_result-some : (o : Option SceneError) (e : SceneError) → as_result o ≡ Err e → o ≡ Some e
as_result-some None e refused = absurd (cc)
as_result-some (Some f) e refused = cc

-- the fault of a map, by its shape and its cells
map_refusal-parts : (most states : ℕ) (rows : List (List ℕ)) → map_refusal most states rows ≡ option_or (shape_refusal most rows) (bad_cell states rows)
unfolding map_refusal
map_refusal-parts most states rows = by (between (pos 1) (pos most) (pos (length rows)))
  where
    by : (b : Bool) → (if not b then Some Range else option_or (row_length most rows) (bad_cell states rows)) ≡ option_or (if not b then Some Range else row_length most rows) (bad_cell states rows)
    by true = refl
    by false = refl

pub map_refusal-shape : (most states : ℕ) (rows : List (List ℕ)) (e : SceneError) → shape_refusal most rows ≡ Some e → map_refusal most states rows ≡ Some e
map_refusal-shape most states rows e is = map_refusal-parts most states rows ∙ ap (λ o. option_or o (bad_cell states rows)) is

pub map_refusal-cells : (most states : ℕ) (rows : List (List ℕ)) → shape_refusal most rows ≡ None → map_refusal most states rows ≡ bad_cell states rows
map_refusal-cells most states rows none = map_refusal-parts most states rows ∙ ap (λ o. option_or o (bad_cell states rows)) none

-- the first row with a bad cell, after rows with none
pub bad_cell-at : (states : ℕ) (rows : List (List ℕ)) (r c : ℕ) → r < length rows → ((k : ℕ) → k < r → is_some (bad_column states (row_at rows k)) ≡ false)
    → bad_column states (row_at rows r) ≡ Some c → bad_cell states rows ≡ Some (BadCell r c)
bad_cell-at states rows r c within before here =
    ap (option_map (λ r. BadCell r (unwrap_or (bad_column states (row_at rows r)) 0))) (position-at (λ row. is_some (bad_column states row)) rows [] r within before (ap is_some here))
    ∙ ap (λ o. Some (BadCell r (unwrap_or o 0))) here

pub bad_cell-none : (states : ℕ) (rows : List (List ℕ)) → ((k : ℕ) → k < length rows → is_some (bad_column states (row_at rows k)) ≡ false) → bad_cell states rows ≡ None
bad_cell-none states rows each =
    ap (option_map (λ r. BadCell r (unwrap_or (bad_column states (row_at rows r)) 0))) (no_position (λ row. is_some (bad_column states row)) rows [] each)

pub row_length-at : (most : ℕ) (rows : List (List ℕ)) (r : ℕ) → r < length rows → ((k : ℕ) → k < r → has_wrong_length most (length (row_at rows 0)) (row_at rows k) ≡ false)
    → has_wrong_length most (length (row_at rows 0)) (row_at rows r) ≡ true → row_length most rows ≡ Some (RowLength r)
row_length-at most rows r within before here =
    ap (option_map (λ r. RowLength r)) (position-at (has_wrong_length most (length (row_at rows 0))) rows [] r within before here)

pub row_length-none : (most : ℕ) (rows : List (List ℕ)) → ((k : ℕ) → k < length rows → has_wrong_length most (length (row_at rows 0)) (row_at rows k) ≡ false) → row_length most rows ≡ None
row_length-none most rows each =
    ap (option_map (λ r. RowLength r)) (no_position (has_wrong_length most (length (row_at rows 0))) rows [] each)

mapped_none : {A : Type 0} (f : ℕ → A) (o : Option ℕ) → option_map f o ≡ None → o ≡ None
mapped_none f None e = refl
mapped_none f (Some x) e = absurd (cc)

not_false : (b : Bool) → not b ≡ false → b ≡ true
not_false true e = refl
not_false false e = sym e

fitting : (most first : ℕ) (row : List ℕ) → has_wrong_length most first row ≡ false → (1 ≤ cells_in row) × ((cells_in row ≤ most) × (length row ≡ first))
fitting most first row held =
    let whole = and_parts (length row % 2 == 0) _ (not_false _ held) in
    let side = and_parts (between (pos 1) (pos most) (pos (cells_in row))) _ whole.1 in
    (grind (arith, ints, side.0), (grind (arith, ints, side.0), grind (arith, nat_tests, side.1)))

module _ (most : ℕ) (rows : List (List ℕ)) (few : most ≤ MOST_SIDE) (lengths : row_length most rows ≡ None) where
  fits : (r : ℕ) → r < length rows → (1 ≤ cells_in (row_at rows r)) × ((cells_in (row_at rows r) ≤ most) × (length (row_at rows r) ≡ length (row_at rows 0)))
  fits r within = fitting most _ (row_at rows r) (none_passes _ rows (mapped_none (λ r. RowLength r) _ lengths) r [] within)

  IsMap-accepted : between (pos 1) (pos most) (pos (length rows)) ≡ true → IsMap rows
  IsMap-accepted high =
      let some_rows : 1 ≤ length rows = grind (arith, ints, high) in
      let few_rows : length rows ≤ most = grind (arith, ints, high) in
      let first = fits 0 some_rows in
      let first_short = first.1.0 in
      record {
        some_rows = some_rows;
        few_rows = omega (arith, few_rows, few);
        some_cells = first.0;
        few_cells = omega (arith, first_short, few);
        wide = λ y within. ap (λ n. n / 2) (fits y within).1.1;
      }

-- a map of an accepted shape
shape_parts : (most : ℕ) (rows : List (List ℕ)) → shape_refusal most rows ≡ None → (between (pos 1) (pos most) (pos (length rows)) ≡ true) × (row_length most rows ≡ None)
shape_parts most rows none = by (between (pos 1) (pos most) (pos (length rows))) (row_length most rows) none
  where
    by : (b : Bool) (o : Option SceneError) → (if not b then Some Range else o) ≡ None → (b ≡ true) × (o ≡ None)
    by true o e = (refl, e)
    by false o e = absurd (cc)

pub IsMap-shaped : (most : ℕ) (rows : List (List ℕ)) → most ≤ MOST_SIDE → shape_refusal most rows ≡ None → IsMap rows
IsMap-shaped most rows few none = let parts = shape_parts most rows none in IsMap-accepted most rows few parts.1 parts.0
