-- The planes of a row: each direction has n words of 64 cells, direction 0 first.
use Rattle.std.specs.Prelude.{◌≡◌, ℕ, ◌+◌, ◌*◌, ◌<◌, List, length, slice_index}
use Rattle.gas_geom.specs.Gas.{holds}
use Rattle.gas_geom.specs.Lattice.{row_of}
use Rattle.gas_bits.specs.Words.{words_in}
use Rattle.gas_bits.specs.Planes.{state}

-- the row of that width: its cell x holds direction i if bit x % 64 of the direction's word x / 64 is 1
unfoldable pub cells_of : ℕ → ℕ → List ℕ → List ℕ
cells_of dirs width words = row_of width (state words (words_in width) dirs)

-- the words of a row: bit b of word j of direction i says whether cell 64 * j + b holds it, and bits past the width are zero
pub record AreWordsOf (dirs : ℕ) (row words : List ℕ) : Type 0 where
  pub long : length words ≡ dirs * words_in (length row)
  pub bits : (i j b : ℕ) → i < dirs → j < words_in (length row) → b < 64 →
      holds (slice_index words (i * words_in (length row) + j)) b ≡ holds (slice_index row (64 * j + b)) i
