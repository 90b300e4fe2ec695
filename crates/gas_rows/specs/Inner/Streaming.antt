-- Inner words: what functions of this crate promise one another. No public contract cites them.
-- Here: the words of a row as they are streamed and collided.
use Rattle.std.specs.Prelude.{◌≡◌, ℕ, ◌*◌, ◌-◌, ◌<◌, ◌&&◌, ◌||◌, nat_le, nat_lt, Bool, false, List, if◌then◌else◌}
use Rattle.gas_geom.specs.Gas.{Rules}
use Rattle.gas_geom.specs.Channel.{ChannelModel, is_solid}
use Rattle.gas_geom.specs.Lattice.{streamed}
use Rattle.gas_bits.specs.Words.{words_in, bit}
use Rattle.gas_bits.specs.Planes.{state}
use Rattle.gas_geom.specs.declared.moves.Move.TheVariants.{Back, On}
use Rattle.gas_rows.specs.Beside.{is_solid_beside}
use Rattle.gas_rows.specs.Planes.{cells_of}
use Rattle.gas_rows.specs.Streaming.{AreRowsAbout, advanced}
use Rattle.gas_rows.specs.declared.stream.Kernel.{Kernel}

-- they are the words of the rows about row y of `at`, none of which has a solid cell
pub record AreFluidRowsAbout (dirs : ℕ) (channel : ChannelModel) (at : ℕ → ℕ → ℕ) (width y : ℕ) (above middle below : List ℕ) : Type 0 where
  pub wide : width ≡ channel.width
  pub rows : AreRowsAbout channel at y (cells_of dirs width above) (cells_of dirs width middle) (cells_of dirs width below)
  pub fluid_above : (x : ℕ) → x < channel.width → is_solid_beside channel x y Back ≡ false
  pub fluid_middle : (x : ℕ) → x < channel.width → is_solid channel x y ≡ false
  pub fluid_below : (x : ℕ) → x < channel.width → is_solid_beside channel x y On ≡ false

-- the words of a row are those of row y of `at` after streaming and, if it collides, a collision by these bits
abbrev pub IsAdvanced : Rules → ChannelModel → Bool → List ℕ → (ℕ → ℕ → ℕ) → ℕ → ℕ → List ℕ → Type 0
IsAdvanced gas channel collides chi at width y words = (x : ℕ) → x < channel.width → state words (words_in width) gas.dirs x
    ≡ advanced gas channel collides (λ x y. bit chi x) at x y

-- the state of a cell from that after streaming, if a collision follows or not
abbrev pub advanced_state : Rules → Bool → ℕ → Bool → ℕ
advanced_state gas collides s chi = if collides then gas.collide s chi else s

-- the cells of the words from `from` to `to - 1` are those of the middle row of the lattice `at` after that, the others as they were
abbrev pub AreAdvanced : Rules → ChannelModel → (ℕ → ℕ → ℕ) → Kernel → ℕ → ℕ → List ℕ → List ℕ → Type 0
AreAdvanced gas channel at k from to old new = (x : ℕ) → x < channel.width → state new (words_in k.rows.width) gas.dirs x
    ≡ (if nat_le (64 * from) x && nat_lt x (64 * to) then advanced_state gas k.collides (streamed gas channel at x k.rows.y) (bit k.chi.now x)
    else state old (words_in k.rows.width) gas.dirs x)

-- the same for the first four words if `ends` is 1, and for the last four too if it is 2
abbrev pub AreEndsAdvanced : Rules → ChannelModel → (ℕ → ℕ → ℕ) → Kernel → ℕ → List ℕ → List ℕ → Type 0
AreEndsAdvanced gas channel at k ends old new = (x : ℕ) → x < channel.width → state new (words_in k.rows.width) gas.dirs x
    ≡ (if nat_le 1 ends && nat_lt x 256 || nat_le 2 ends && nat_le (64 * (words_in k.rows.width - 4)) x
    then advanced_state gas k.collides (streamed gas channel at x k.rows.y) (bit k.chi.now x)
    else state old (words_in k.rows.width) gas.dirs x)
