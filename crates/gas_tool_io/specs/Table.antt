-- The text of a coarse table: a header, then a line per block.
use Rattle.std.specs.Prelude.{ℕ, ◌-◌, List, ◌++◌, length, replicate, codes}
use Rattle.std.specs.Fmt.{decimal, signed_decimal}
use Rattle.std.specs.List.{flat_map}
use Rattle.gas_tool_io.specs.Text.{line_feed}
use Rattle.gas_blocks.specs.declared.blocks.Block.{Block}

-- a text aligned to the right in a number of places, or the text itself if it needs more
abbrev pub right_aligned : ℕ → List ℕ → List ℕ
right_aligned places text = replicate (places - length text) 32 ++ text

-- a line of six columns
unfoldable pub table_line : List ℕ → List ℕ → List ℕ → List ℕ → List ℕ → List ℕ → List ℕ
table_line col row fluid particles px py =
    right_aligned 5 col ++ codes " " ++ right_aligned 5 row ++ codes " " ++ right_aligned 8 fluid
    ++ codes " " ++ right_aligned 9 particles ++ codes " " ++ right_aligned 10 px
    ++ codes " " ++ right_aligned 10 py ++ line_feed

abbrev pub table_header : List ℕ
table_header = table_line (codes "col") (codes "row") (codes "fluid") (codes "particles") (codes "px") (codes "py")

abbrev pub block_line : Block → List ℕ
block_line b =
    table_line (decimal b.col) (decimal b.row) (decimal b.fluid) (decimal b.particles) (signed_decimal b.px) (signed_decimal b.py)

abbrev pub table_text : List Block → List ℕ
table_text blocks = table_header ++ flat_map block_line blocks
