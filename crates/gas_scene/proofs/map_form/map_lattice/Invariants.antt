use Rattle.std.proofs.Common.{◌≡◌, ℕ, ◌<◌, ◌^◌, false}
use Rattle.std.specs.Prelude.{is_some}
use Rattle.gas_cells.specs.Reading.{bad_column}
use Rattle.gas_scene.specs.Inner.Models.{texts_of}
use Rattle.gas_scene.specs.Inner.Maps.{map_before, row_at}
use Rattle.gas_scene.proofs.map_form.map_lattice.Given as goal

-- the rows so far are cells, and they are in the lattice
abbrev pub invariant-loop-y : goal.invariant-loop-y
invariant-loop-y g l = record {
  cells : (k : ℕ) → k < l.y → is_some (bad_column (2 ^ g.G.Gas.rules.dirs) (row_at (texts_of l.rows) k)) ≡ false;
  put : l.lattice ≡ map_before (2 ^ g.G.Gas.rules.dirs) (texts_of l.rows) l.y;
}
