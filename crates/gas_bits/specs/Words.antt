-- Words of 64 cells: cell x is bit x % 64 of word x / 64.
use Rattle.std.specs.Prelude.{ℕ, ◌/◌, ◌%◌, Bool, List, slice_index}
use Rattle.std.specs.Int.{div_ceil}
use Rattle.gas_geom.specs.Gas.{holds}

-- the number of words of a row
abbrev pub words_in : ℕ → ℕ
words_in width = div_ceil width 64

-- the bit of cell x
unfoldable pub bit : List ℕ → ℕ → Bool
bit words x = holds (slice_index words (x / 64)) (x % 64)
