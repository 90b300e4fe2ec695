-- The rows about a row, as streaming reads them.
use Rattle.std.specs.Prelude.{◌≡◌, ℕ, ◌+◌, ◌-◌, ◌*◌, ◌<◌, Bool, false, if◌then◌else◌, List, length, slice_index}
use Rattle.gas_geom.specs.Gas.{Rules}
use Rattle.gas_geom.specs.Channel.{ChannelModel, is_solid}
use Rattle.gas_geom.specs.Lattice.{collided, streamed}
use Rattle.gas_geom.specs.declared.moves.Move.TheVariants.{Back, On}
use Rattle.gas_bits.specs.Words.{words_in, bit}
use Rattle.gas_rows.specs.Beside.{is_solid_beside}
use Rattle.gas_rows.specs.Planes.{cells_of}
use Rattle.gas_rows.specs.declared.stream.Neighbourhood.{Neighbourhood}

-- a row is row y of the lattice `at` at its fluid cells
abbrev pub IsRowAt : ChannelModel → (ℕ → ℕ → ℕ) → ℕ → List ℕ → Type 0
IsRowAt channel at y row = (x : ℕ) → x < channel.width → is_solid channel x y ≡ false → slice_index row x ≡ at x y

-- three rows are rows y - 1, y and y + 1 of `at`, as far as the channel has them
pub record AreRowsAbout (channel : ChannelModel) (at : ℕ → ℕ → ℕ) (y : ℕ) (up mid down : List ℕ) : Type 0 where
  pub up_is : 0 < y → IsRowAt channel at (y - 1) up
  pub mid_is : IsRowAt channel at y mid
  pub down_is : y + 1 < channel.height → IsRowAt channel at (y + 1) down

-- the three rows of a neighbourhood have the words of so many directions
pub record AreRowsLong (dirs : ℕ) (n : Neighbourhood) : Type 0 where
  pub above : length n.above.now ≡ dirs * words_in n.width
  pub middle : length n.middle.now ≡ dirs * words_in n.width
  pub below : length n.below.now ≡ dirs * words_in n.width

-- they are the rows about row y of `at`, and its solid cells those of the channel; past a wall every cell is solid
pub record AreWordsAbout (dirs : ℕ) (channel : ChannelModel) (at : ℕ → ℕ → ℕ) (n : Neighbourhood) : Type 0 where
  pub wide : n.width ≡ channel.width
  pub rows : AreRowsAbout channel at n.y (cells_of dirs n.width n.above.now) (cells_of dirs n.width n.middle.now) (cells_of dirs n.width n.below.now)
  pub solid_above : (x : ℕ) → x < channel.width → bit n.solid_above.now x ≡ is_solid_beside channel x n.y Back
  pub solid_middle : (x : ℕ) → x < channel.width → bit n.solid_middle.now x ≡ is_solid channel x n.y
  pub solid_below : (x : ℕ) → x < channel.width → bit n.solid_below.now x ≡ is_solid_beside channel x n.y On

-- cell (x, y) of the lattice `at` after streaming and, if it collides, a collision by these bits
abbrev pub advanced : Rules → ChannelModel → Bool → (ℕ → ℕ → Bool) → (ℕ → ℕ → ℕ) → ℕ → ℕ → ℕ
advanced gas channel collides chi at x y = if collides then collided gas channel chi (streamed gas channel at) x y else streamed gas channel at x y
