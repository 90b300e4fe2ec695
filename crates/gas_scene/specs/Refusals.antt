-- Why a document's table is no scene.
use Rattle.std.specs.Prelude.{ℕ, ◌%◌, ◌^◌, ◌==◌, ◌&&◌, ◌||◌, not, Bool, List, [], Option, Some, None, is_some, option_map, if◌then◌else◌, length, codes, slice_index_or, ℤ, pos, nat_abs, int_le}
use Rattle.std.specs.List.{list_all, list_any, position}
use Rattle.std.specs.Option.{option_or, option_map_or, unwrap_or}
use Rattle.std.specs.Ordering.{int_eq}
use Rattle.toml.specs.Data.{Members, get_member}
use Rattle.gas_scene.specs.declared.catalog.KnownGas.{KnownGas}
use Rattle.gas_scene.specs.declared.catalog.KnownGas.TheVariants.{Fhp1}
use Rattle.gas_scene.specs.Catalog.{rules_of, gas_named, chirality_named}
use Rattle.gas_layout.specs.Layout.{between, is_covered, fits, can_place}
use Rattle.gas_scene.specs.declared.error.SceneError.{SceneError}
use Rattle.gas_scene.specs.declared.error.SceneError.TheVariants.{UnknownKey, Missing, WrongType, Range, BothForms, RowLength, BadCell}
use Rattle.gas_cells.specs.Reading.{cells_in, bad_column}
use Rattle.gas_scene.specs.Table.{TableModel, table_of}
use Rattle.gas_scene.specs.Keys.{area_keys, are_known, is_typed}

abbrev pub has : List ℕ → Members → Bool
has key ms = is_some (get_member key ms)

-- the first fault of the keys of a table and the types of its values; only version 2 has the generation
unfoldable pub table_refusal : Members → Option SceneError
table_refusal ms =
    if not (are_known ms && (int_eq (table_of ms).version (pos 2) || not (has (codes "generation") ms))) then Some UnknownKey
    else if has (codes "cells") ms && list_any (λ k. has k.0 ms) area_keys then Some BothForms
    else if not (has (codes "gas") ms && (has (codes "cells") ms || (has (codes "width") ms && has (codes "height") ms))) then Some Missing
    else if not (is_typed ms) then Some WrongType
    else None

-- the most columns, and the most rows
abbrev pub most_side : ℤ → ℕ
most_side version = if int_eq version (pos 2) then 65536 else 4096

-- the gas that a table names
abbrev pub gas_of : TableModel → KnownGas
gas_of t = unwrap_or (gas_named t.gas) Fhp1

-- the values that maps and areas share
abbrev pub is_common_in_range : TableModel → Bool
is_common_in_range t =
    between (pos 1) (pos 2) t.version && (int_le (pos 0) t.seed && (between (pos 0) (pos 1000000000000) t.generation
    && (is_some (gas_named t.gas) && is_some (chirality_named t.chirality (nat_abs t.seed)))))

-- the fault of an area with sides of at most `most` cells, in a gas with this number of states per cell
abbrev pub area_refusal : ℕ → ℕ → TableModel → Option SceneError
area_refusal most states t =
    if between (pos 1) (pos most) t.width && (between (pos 1) (pos most) t.height && (between (pos 0) (pos 1000) t.rate
    && (list_all (fits (nat_abs t.width) (nat_abs t.height)) t.solid
    && list_all (can_place states (nat_abs t.width) (nat_abs t.height) (is_covered t.solid)) t.particles)))
    then None else Some Range

-- whether a row's length is wrong: it must be the length of 1 to `most` whole cells, and equal to the first row's
abbrev pub has_wrong_length : ℕ → ℕ → List ℕ → Bool
has_wrong_length most first row =
    not ((length row % 2 == 0) && (between (pos 1) (pos most) (pos (cells_in row)) && (length row == first)))

-- the first row of a wrong length
abbrev pub row_length : ℕ → List (List ℕ) → Option SceneError
row_length most rows = option_map (λ r. RowLength r) (position (has_wrong_length most (length (slice_index_or rows 0 []))) rows)

-- the first row with a column that has no cell, and the first such column
abbrev pub bad_cell : ℕ → List (List ℕ) → Option SceneError
bad_cell states rows =
    option_map (λ r. BadCell r (unwrap_or (bad_column states (slice_index_or rows r [])) 0))
    (position (λ row. is_some (bad_column states row)) rows)

-- the first fault of the rows of a map
unfoldable pub map_refusal : ℕ → ℕ → List (List ℕ) → Option SceneError
map_refusal most states rows =
    if not (between (pos 1) (pos most) (pos (length rows))) then Some Range
    else option_or (row_length most rows) (bad_cell states rows)

-- the first fault of the values of a table
unfoldable pub value_refusal : TableModel → Option SceneError
value_refusal t =
    let states : ℕ = 2 ^ (rules_of (gas_of t)).dirs in
    if not (is_common_in_range t) then Some Range
    else option_map_or (map_refusal (most_side t.version) states) t.cells (area_refusal (most_side t.version) states t)
