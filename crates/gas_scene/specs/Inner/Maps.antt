-- Inner words: what functions of this crate promise one another. No public contract cites them.
-- Here: the results of checks, and how far the lattice of a map is built.
use Rattle.std.specs.Prelude.{◌≡◌, ℕ, ◌<◌, ◌≤◌, false, List, [], slice_index_or, not, pos, Option, Some, Result, Ok, Err, length, nat_lt, if◌then◌else◌}
use Rattle.std.specs.Option.{option_map_or}
use Rattle.gas_geom.specs.Lattice.{LatticeModel}
use Rattle.gas_geom.specs.declared.size.TheConstants.{MOST_SIDE}
use Rattle.gas_cells.specs.declared.reading.Cell.{Cell}
use Rattle.gas_cells.specs.Reading.{cells_in, cell_or_empty}
use Rattle.gas_layout.specs.Layout.{between, lattice_of}
use Rattle.gas_scene.specs.declared.error.SceneError.{SceneError}
use Rattle.gas_scene.specs.declared.error.SceneError.TheVariants.{Range}
use Rattle.gas_scene.specs.Refusals.{row_length}

-- the result of a check
abbrev pub as_result : Option SceneError → Result (Unit {0}) SceneError
as_result fault = option_map_or Err fault (Ok tt)

-- row r of a map
abbrev pub row_at : List (List ℕ) → ℕ → List ℕ
row_at rows r = slice_index_or rows r []

-- the first fault of the number of rows and of their lengths
abbrev pub shape_refusal : ℕ → List (List ℕ) → Option SceneError
shape_refusal most rows = if not (between (pos 1) (pos most) (pos (length rows))) then Some Range else row_length most rows

-- the first row sets the width
abbrev pub map_width : List (List ℕ) → ℕ
map_width rows = cells_in (row_at rows 0)

-- rows of one length, with at least one cell and not too many
pub record IsMap (rows : List (List ℕ)) : Type 0 where
  pub some_rows : 1 ≤ length rows
  pub few_rows : length rows ≤ MOST_SIDE
  pub some_cells : 1 ≤ map_width rows
  pub few_cells : map_width rows ≤ MOST_SIDE
  pub wide : (y : ℕ) → y < length rows → cells_in (row_at rows y) ≡ map_width rows

-- the cell in column x of row y of a map
abbrev pub map_cell : ℕ → List (List ℕ) → ℕ → ℕ → Cell
map_cell states rows x y = cell_or_empty states (slice_index_or rows y []) x

-- the lattice up to row y, fluid and empty from there on
unfoldable pub map_before : ℕ → List (List ℕ) → ℕ → LatticeModel
map_before states rows y =
    lattice_of (map_width rows) (length rows)
    (λ u v. if nat_lt v y then (map_cell states rows u v).solid else false)
    (λ u v. if nat_lt v y then (map_cell states rows u v).state else 0)
