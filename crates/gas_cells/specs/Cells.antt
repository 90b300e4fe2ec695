-- The text of cells: two characters each, a row from the west.
use Rattle.std.specs.Prelude.{ℕ, ◌/◌, ◌%◌, ◌==◌, Bool, false, if◌then◌else◌, List, [], ◌∷◌, codes}
use Rattle.std.specs.Fmt.{digit_glyph}
use Rattle.std.specs.List.{flat_map, range_with_len}
use Rattle.gas_geom.specs.Channel.{ChannelModel, is_solid}
use Rattle.gas_geom.specs.Lattice.{cell}

-- the two characters of a cell: `##` solid, `..` empty, else the state in lower-case hexadecimal digits
abbrev pub cell_text : Bool → ℕ → List ℕ
cell_text solid state =
    if solid then codes "##"
    else if state == 0 then codes ".."
    else digit_glyph false (state / 16) ∷ digit_glyph false (state % 16) ∷ []

-- the characters of row y, from the left
unfoldable pub row_cells : ChannelModel → List (List ℕ) → ℕ → List ℕ
row_cells channel rows y = flat_map (λ x. cell_text (is_solid channel x y) (cell rows x y)) (range_with_len 0 channel.width)
