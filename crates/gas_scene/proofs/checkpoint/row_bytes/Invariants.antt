use Rattle.std.proofs.Common.{◌≡◌, ◌*◌, take}
use Rattle.gas_cells.specs.Cells.{row_cells}
use Rattle.gas_scene.proofs.checkpoint.row_bytes.Given as goal

-- the parts so far are in the text
abbrev pub invariant-loop-j : goal.invariant-loop-j
invariant-loop-j g l = l.text.items ≡ take (128 * l.j) (row_cells l.lattice.channel l.lattice.rows l.y)
