use Rattle.std.proofs.Common.{◌≡◌, ℕ, ◌<◌, false}
use Rattle.std.specs.Prelude.{is_some}
use Rattle.gas_cells.specs.Reading.{bad_column}
use Rattle.gas_scene.specs.Inner.Models.{texts_of}
use Rattle.gas_scene.specs.Inner.Maps.{row_at}
use Rattle.gas_scene.proofs.map_form.check_cells.Given as goal

-- the rows so far pass
abbrev pub invariant-loop-r : goal.invariant-loop-r
invariant-loop-r l = (k : ℕ) → k < l.r → is_some (bad_column l.states (row_at (texts_of l.rows) k)) ≡ false
