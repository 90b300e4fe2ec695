-- Parts of a lattice: some of its rows, as a lattice of their own.
use Rattle.std.specs.Prelude.{◌≡◌, ℕ, ◌+◌, ◌<◌, ◌≤◌}
use Rattle.gas_geom.specs.Channel.{ChannelModel, is_solid}
use Rattle.gas_geom.specs.Lattice.{LatticeModel, cell}

-- the part has the whole's rows from row `first` on, with their solid cells
pub record IsPartFrom (first : ℕ) (part whole : LatticeModel) : Type 0 where
  pub wide : part.channel.width ≡ whole.channel.width
  pub within : first + part.channel.height ≤ whole.channel.height
  pub solid : (x y : ℕ) → y < part.channel.height → is_solid part.channel x y ≡ is_solid whole.channel x (first + y)
  pub cells : (x y : ℕ) → y < part.channel.height → cell part.rows x y ≡ cell whole.rows x (first + y)

-- at least n rows of the part are between its row y and each cut: an end of the part at which the whole goes on
pub record IsFarFromCuts (first n : ℕ) (part whole : ChannelModel) (y : ℕ) : Type 0 where
  pub row : y < part.height
  pub above : 0 < first → n ≤ y
  pub below : first + part.height < whole.height → y + n < part.height
