-- Reading cells: the cell of two characters, and the cells of a row.
use Rattle.std.specs.Prelude.{ℕ, ◌+◌, ◌*◌, ◌/◌, true, false, List, [], ◌∷◌, Option, Some, None, if◌then◌else◌, nat_lt, nat_eq, slice_index, length, position, codes}
use Rattle.std.specs.Option.{is_none, unwrap_or}
use Rattle.std.specs.List.{find, range_with_len}
use Rattle.std.specs.Str.{bytes_eq}
use Rattle.gas_cells.specs.declared.reading.Cell.{Cell}

-- the value of a lower-case hexadecimal digit
unfoldable pub digit_of : ℕ → Option ℕ
digit_of b = position (λ d. nat_eq d b) (codes "0123456789abcdef")

-- the fluid cell with the state of two digits, if the state is below the number of states
abbrev pub state_of : ℕ → Option ℕ → Option ℕ → Option Cell
state_of states (Some high) (Some low) =
    if nat_lt (high * 16 + low) states then Some (record { solid = false; state = high * 16 + low }) else None
state_of states _ _ = None

-- the cell of two characters: `##` a solid one, `..` an empty one, else the fluid cell with the state of two digits
unfoldable pub cell_of : ℕ → ℕ → ℕ → Option Cell
cell_of states a b =
    if bytes_eq (a ∷ b ∷ []) (codes "##") then Some (record { solid = true; state = 0 })
    else if bytes_eq (a ∷ b ∷ []) (codes "..") then Some (record { solid = false; state = 0 })
    else state_of states (digit_of a) (digit_of b)

-- the number of cells in the characters of a row
abbrev pub cells_in : List ℕ → ℕ
cells_in row = length row / 2

-- the cell in column c of a row
abbrev pub cell_at : ℕ → List ℕ → ℕ → Option Cell
cell_at states row c = cell_of states (slice_index row (2 * c)) (slice_index row (2 * c + 1))

-- the same, with a fluid and empty cell for a column that has none
abbrev pub cell_or_empty : ℕ → List ℕ → ℕ → Cell
cell_or_empty states row c = unwrap_or (cell_at states row c) (record { solid = false; state = 0 })

-- the first column with no cell
abbrev pub bad_column : ℕ → List ℕ → Option ℕ
bad_column states row = find (λ c. is_none (cell_at states row c)) (range_with_len 0 (cells_in row))
