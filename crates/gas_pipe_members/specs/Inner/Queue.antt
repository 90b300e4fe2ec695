-- Inner words: what functions of this crate promise one another. No public contract cites them.
-- The rows of a feeder, and rows with their solid cells empty.
use Rattle.std.specs.Prelude.{◌≡◌, ℕ, ◌+◌, ◌%◌, ◌^◌, ◌<◌, true, List, [], length, slice_index_or}
use Rattle.gas_geom.specs.Gas.{Rules}
use Rattle.gas_geom.specs.Channel.{ChannelModel, is_solid}
use Rattle.gas_geom.specs.Lattice.{cell}
use Rattle.gas_rows.specs.Row.{RowModel}
use Rattle.gas_pipe_members.specs.Feeder.{emptied_from}

-- The rows of a feeder, if to_put rows are still to be put, to_take rows still to be taken, and row `next` of a lattice comes back next:
-- rows of a lattice, row y at place y + to_put, modulo the height.
pub record IsQueue (gas : Rules) (channel : ChannelModel) (rows : List RowModel) (to_put to_take next : ℕ) : Type 0 where
  pub long : length rows + to_take ≡ channel.height + to_put
  -- the last row that comes back is a lattice's last
  pub last : (next + to_take) % channel.height ≡ 0
  pub wide : (i : ℕ) → i < length rows → length (slice_index_or rows i []) ≡ channel.width
  pub sets : (x i : ℕ) → cell rows x i < 2 ^ gas.dirs
  pub empty : (x y : ℕ) → y < channel.height → is_solid channel x y ≡ true → cell rows x ((y + to_put) % channel.height) ≡ 0

-- the rows of one lattice after another with their solid cells empty, from the top of the first
abbrev pub emptied : ChannelModel → List RowModel → List RowModel
emptied channel rows = emptied_from channel 0 rows
