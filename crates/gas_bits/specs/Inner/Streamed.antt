-- Inner words: what functions of this crate promise one another. No public contract cites them.
-- Here: the words of one direction of a row, moved along the row.
use Rattle.std.specs.Prelude.{◌≡◌, ℕ, ◌+◌, ◌*◌, ◌<◌, List, slice_index}
use Rattle.gas_geom.specs.declared.moves.Move.{Move}
use Rattle.gas_geom.specs.Moves.{column_after}
use Rattle.gas_geom.specs.Gas.{holds}
use Rattle.gas_bits.specs.Words.{bit}

-- word j of a row of that width has the bits that `words` has at the neighbours of its cells; the move leads to the neighbour
abbrev pub AreBeside : List ℕ → ℕ → Move → ℕ → ℕ → Type 0
AreBeside words width m j word =
    (b : ℕ) → b < 64 → 64 * j + b < width → holds word b ≡ bit words (column_after width (64 * j + b) m)

-- and so have the four words from word j on
abbrev pub AreFourBeside : List ℕ → ℕ → Move → ℕ → List ℕ → Type 0
AreFourBeside words width m j four = (l : ℕ) → l < 4 → AreBeside words width m (j + l) (slice_index four l)
