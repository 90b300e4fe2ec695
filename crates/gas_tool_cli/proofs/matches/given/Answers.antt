use Rattle.clap.specs.Words.{found_of}
use Rattle.gas_tool_cli.proofs.Values.{given_at}
use Rattle.gas_tool_cli.proofs.matches.given.Goals as goal

pub returns : goal.returns
returns c =
    given_at (found_of c.args.options.now) c.args.name.now c.try_get_one.result c.ok.result c.ok.ensures.value c.try_get_one.ensures.none c.try_get_one.ensures.value
