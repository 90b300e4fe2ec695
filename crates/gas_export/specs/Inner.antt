-- Inner words: what functions of this crate promise one another. No public contract cites them.
use Rattle.std.specs.Prelude.{◌≡◌, ◌≤◌, ◌<◌, ◌+◌, ℕ, Bool, true, false, if◌then◌else◌, List, length}
use Rattle.gas_geom.specs.Channel.{ChannelModel}
use Rattle.gas_geom.specs.Gas.{Rules}
use Rattle.gas_geom.specs.Lattice.{collided, streamed}
use Rattle.rand_chacha.specs.ChaCha.{key_of}
use Rattle.gas_bits.specs.Words.{words_in, bit}
use Rattle.gas_rows.specs.Key.{key_bytes}
use Rattle.gas_rows.specs.declared.chirality.Chirality.{Chirality}
use Rattle.gas_rows.specs.declared.chirality.Chirality.TheVariants.{Seeded, Left, Right}
use Rattle.gas_export.specs.Part.{part_bit}
use Rattle.gas_export.specs.Planes.{row_words}
use Rattle.gas_export.specs.declared.draw.Source.{Source}

-- the n rows above row y are rows, and no cell of them is solid
abbrev pub AreFluidAbove : ℕ → List ℕ → ℕ → ℕ → Type 0
AreFluidAbove width solid y n =
    (n ≤ y) × ((k x : ℕ) → k < y → y ≤ k + n → bit (row_words (words_in width) solid k) x ≡ false)

-- the bit of a generation's cell (x, y) in a part of that width
abbrev pub bit_of : Source → ℕ → ℕ → ℕ → ℕ → Bool
bit_of source width = part_bit source.chirality width source.first_row

-- the lattice `at` after its particles moved, if it streams
abbrev pub moved : Rules → ChannelModel → Bool → (ℕ → ℕ → ℕ) → ℕ → ℕ → ℕ
moved gas channel streams at x y = if streams then streamed gas channel at x y else at x y

-- and after a collision by these bits, if it collides
abbrev pub passed : Rules → ChannelModel → (ℕ → ℕ → Bool) → Bool → Bool → (ℕ → ℕ → ℕ) → ℕ → ℕ → ℕ
passed gas channel chi streams collides at x y =
    if collides then collided gas channel chi (moved gas channel streams at) x y else moved gas channel streams at x y

-- the words have a row's bits, but if they are drawn, which they are under the key of their seed
pub record IsReady (chirality : Chirality) (key : List ℕ) (width : ℕ) (bits : List ℕ) : Type 0 where
  pub long : length bits ≡ words_in width
  pub seeded : (seed : ℕ) → chirality ≡ Seeded seed → key ≡ key_of (key_bytes seed)
  pub left : chirality ≡ Left → (x : ℕ) → x < width → bit bits x ≡ true
  pub right : chirality ≡ Right → (x : ℕ) → x < width → bit bits x ≡ false
