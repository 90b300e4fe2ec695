use Rattle.std.proofs.Common.{◌≡◌, map}
use Rattle.std.specs.List.{range_with_len}
use Rattle.toml.specs.Data.{string}
use Rattle.toml.specs.View.{view}
use Rattle.gas_cells.specs.Cells.{row_cells}
use Rattle.gas_scene.proofs.checkpoint.row_values.Given as goal

-- the rows so far are in the list
abbrev pub invariant-loop-y : goal.invariant-loop-y
invariant-loop-y g l = map view l.rows.items ≡ map (λ y. string (row_cells l.lattice.channel l.lattice.rows y)) (range_with_len 0 l.y)
