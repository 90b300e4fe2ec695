use Rattle.std.proofs.Common.{◌≡◌, ℕ, ◌<◌, false, length}
use Rattle.gas_scene.specs.Refusals.{has_wrong_length}
use Rattle.gas_scene.specs.Inner.Models.{texts_of}
use Rattle.gas_scene.specs.Inner.Maps.{row_at}
use Rattle.gas_scene.proofs.map_form.check_lengths.Given as goal

-- the rows so far pass
abbrev pub invariant-loop-r : goal.invariant-loop-r
invariant-loop-r l = (k : ℕ) → k < l.r → has_wrong_length l.most (length (row_at (texts_of l.rows) 0)) (row_at (texts_of l.rows) k) ≡ false
