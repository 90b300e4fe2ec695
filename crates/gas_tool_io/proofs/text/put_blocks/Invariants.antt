use Rattle.std.proofs.Common.{take}
use Rattle.std.specs.List.{flat_map}
use Rattle.gas_tool_io.specs.Inner.Sink.{Adds}
use Rattle.gas_tool_io.specs.Table.{block_line}
use Rattle.gas_tool_io.proofs.text.put_blocks.Given as goal

-- the lines of the blocks so far were added
abbrev pub invariant-loop-block : goal.invariant-loop-block
invariant-loop-block g l =
    Adds (g.W.Write.contents l.initial.out) (g.W.Write.contents l.out) l.initial.sink l.sink (flat_map block_line (take l.block-index l.blocks))
