-- Moves along one axis, and where they lead in a channel: the columns are periodic, the top and the bottom are walls.
use Rattle.std.specs.Prelude.{ℕ, ◌+◌, ◌-◌, ◌%◌, if◌then◌else◌, ◌==◌, nat_lt, Option, Some, None, ℤ, pos, negsuc}
use Rattle.gas_geom.specs.declared.moves.Move.{Move}
use Rattle.gas_geom.specs.declared.moves.Move.TheVariants.{Back, Stay, On}

-- a move as a number
abbrev pub amount : Move → ℤ
amount Back = negsuc 0
amount Stay = pos 0
amount On = pos 1

-- the column after a move along a row of `width` cells
abbrev pub column_after : ℕ → ℕ → Move → ℕ
column_after width x Back = (x + width - 1) % width
column_after width x Stay = x % width
column_after width x On = (x + 1) % width

-- the row after a move across `height` rows, or None past the top or bottom row
abbrev pub row_after : ℕ → ℕ → Move → Option ℕ
row_after height y Back = if y == 0 then None else Some (y - 1)
row_after height y Stay = Some y
row_after height y On = if nat_lt (y + 1) height then Some (y + 1) else None
