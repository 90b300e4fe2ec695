use Rattle.std.proofs.Common.{◌++◌}
use Rattle.std.specs.List.{flat_map, range_with_len}
use Rattle.gas_cells.specs.Cells.{row_cells}
use Rattle.gas_tool_io.specs.Inner.Sink.{Adds}
use Rattle.gas_tool_io.specs.Text.{line_feed}
use Rattle.gas_tool_io.proofs.text.put_rows.Given as goal

-- the rows so far were added
abbrev pub invariant-loop-y : goal.invariant-loop-y
invariant-loop-y g l =
    Adds (g.W.Write.contents l.initial.out) (g.W.Write.contents l.out) l.initial.sink l.sink
    (flat_map (λ y. row_cells l.lattice.channel l.lattice.rows y ++ line_feed) (range_with_len 0 l.y))
