use Rattle.clap.specs.Words.{found_of}
use Rattle.gas_tool_cli.proofs.Values.{number_at}
use Rattle.gas_tool_cli.proofs.matches.side_of.Goals as goal

pub returns-then-side-le-MOST_BLOCK_SIDE : goal.returns-then-side-le-MOST_BLOCK_SIDE
returns-then-side-le-MOST_BLOCK_SIDE c =
    let read = number_at 32 (found_of c.args.options.now) _ c.in_ok-side.side c.in_ok-side.ensures.none c.in_ok-side.ensures.value in
    (read, c.if-side-ge1.true, c.if-side-le-MOST_BLOCK_SIDE.true)
