-- The momentum of a lattice, and of the particles that the wall and solid cells have just sent back.
use Rattle.std.specs.Prelude.{ℕ, Bool, true, false, ◌&&◌, Option, None, Some, List, ℤ}
use Rattle.gas_geom.specs.Gas.{Rules, neighbour_of, holds, momentum_of, signed_sum_by}
use Rattle.gas_geom.specs.Channel.{ChannelModel, is_solid}
use Rattle.gas_geom.specs.Lattice.{cell, rows_of, set_of}

-- the momentum of rows, eastwards and northwards
abbrev pub momentum_in : Rules → List (List ℕ) → ℤ × ℤ
momentum_in gas rows =
    (signed_sum_by (λ row. signed_sum_by (λ s. (momentum_of gas s).0) row) rows, signed_sum_by (λ row. signed_sum_by (λ s. (momentum_of gas s).1) row) rows)

-- whether the wall, or a solid cell, is where a neighbour would be
abbrev pub is_wall : ChannelModel → Option (ℕ × ℕ) → Bool
is_wall channel None = true
is_wall channel (Some u) = false

abbrev pub is_obstacle : ChannelModel → Option (ℕ × ℕ) → Bool
is_obstacle channel None = false
is_obstacle channel (Some u) = is_solid channel u.0 u.1

-- the particles of the rows that come from there: those that it sent back in the generation before
abbrev pub sent_back : Rules → ChannelModel → (ChannelModel → Option (ℕ × ℕ) → Bool) → List (List ℕ) → List (List ℕ)
sent_back gas channel is_there rows =
    rows_of channel.width channel.height (λ x y. set_of gas.dirs (λ i.
    holds (cell rows x y) i && is_there channel (neighbour_of gas channel.width channel.height x y (gas.opposite i))))
