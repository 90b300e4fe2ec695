-- Rows: the states of the cells, from the west.
use Rattle.std.specs.Prelude.{ℕ, List}

-- a row is the list of its cells' states
abbrev pub RowModel : Type 0
RowModel = List ℕ
