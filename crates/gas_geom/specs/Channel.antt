-- Channels: a width, a height and the solid cells, walls and obstacles alike.
use Rattle.std.specs.Prelude.{ℕ, ◌<◌, ◌≡◌, Bool, false, List, [], length, replicate, slice_index_or, sum_by, count_by}
use Rattle.gas_geom.specs.Size.{IsSize}

-- the solid cells are a list of rows from the top, a truth value a cell
pub record ChannelModel : Type 0 where
  pub width : ℕ
  pub height : ℕ
  pub solid : List (List Bool)

-- whether the cell (x, y) is solid
abbrev pub is_solid : ChannelModel → ℕ → ℕ → Bool
is_solid channel x y = slice_index_or (slice_index_or channel.solid y []) x false

-- the number of solid cells
abbrev pub solid_cells : ChannelModel → ℕ
solid_cells channel = sum_by (λ row. count_by (λ b. b) row) channel.solid

-- a channel within the limits, with a truth value for each of its cells
pub record IsChannel (channel : ChannelModel) : Type 0 where
  pub size : IsSize channel.width channel.height
  pub high : length channel.solid ≡ channel.height
  pub wide : (y : ℕ) → y < channel.height → length (slice_index_or channel.solid y []) ≡ channel.width

-- a channel whose cells are all fluid
abbrev pub free_channel : ℕ → ℕ → ChannelModel
free_channel width height = record { width = width; height = height; solid = replicate height (replicate width false) }
