use Rattle.std.proofs.Common.{◌*◌, take}
use Rattle.gas_tool_io.specs.Inner.Sink.{Adds}
use Rattle.gas_cells.specs.Cells.{row_cells}
use Rattle.gas_tool_io.proofs.text.put_row.Given as goal

-- the parts so far were added
abbrev pub invariant-loop-j : goal.invariant-loop-j
invariant-loop-j g l =
    Adds (g.W.Write.contents l.initial.out) (g.W.Write.contents l.out) l.initial.sink l.sink
    (take (128 * l.j) (row_cells l.lattice.channel l.lattice.rows l.fn.y))
