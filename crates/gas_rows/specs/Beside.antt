-- The solid cells of the rows beside a row.
use Rattle.std.specs.Prelude.{ℕ, Bool, true}
use Rattle.std.specs.Option.{option_map_or}
use Rattle.gas_geom.specs.declared.moves.Move.{Move}
use Rattle.gas_geom.specs.Moves.{row_after}
use Rattle.gas_geom.specs.Channel.{ChannelModel, is_solid}

-- whether cell x of the row that a move across the rows leads to from row y is solid; past the walls every cell is
abbrev pub is_solid_beside : ChannelModel → ℕ → ℕ → Move → Bool
is_solid_beside channel x y m = option_map_or (is_solid channel x) (row_after channel.height y m) true
