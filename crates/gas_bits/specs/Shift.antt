-- The streaming of one direction of a row.
use Rattle.std.specs.Prelude.{◌≡◌, ℕ, ◌+◌, ◌*◌, ◌<◌, ◌≤◌, max, Bool, false, IsTrue, if◌then◌else◌, List, slice_index}
use Rattle.gas_geom.specs.declared.moves.Move.{Move}
use Rattle.gas_geom.specs.Moves.{column_after}
use Rattle.gas_geom.specs.Gas.{holds}
use Rattle.gas_bits.specs.Words.{words_in, bit}
use Rattle.gas_bits.specs.declared.plane.Incoming.{Incoming}

-- whether cell x holds the direction after streaming; the move leads along the row to the neighbour that the particles come from
abbrev pub streamed_cell : Incoming → Move → ℕ → Bool
streamed_cell incoming m x =
    let neighbour = column_after incoming.width x m in
    if bit incoming.solid_here.now x then false
    else if bit incoming.solid_there.now neighbour then bit incoming.opposite_here.now x
    else bit incoming.plane.now neighbour

-- the four words from word j on are those of the streamed row, as far as it has cells
abbrev pub AreStreamed : Incoming → Move → ℕ → List ℕ → Type 0
AreStreamed q m j four =
    (l b : ℕ) → l < 4 → b < 64 → 64 * (j + l) + b < q.width → holds (slice_index four l) b ≡ streamed_cell q m (64 * (j + l) + b)

-- words j to j + 3 are four of a row, or all of a row of fewer, and neither its first nor its last ones where that is said
pub record IsPlace (width j : ℕ) (inner : Bool) : Type 0 where
  pub within : j + 4 ≤ max 4 (words_in width)
  pub after_first : IsTrue inner → 1 ≤ j
  pub before_last : IsTrue inner → j + 4 < words_in width
