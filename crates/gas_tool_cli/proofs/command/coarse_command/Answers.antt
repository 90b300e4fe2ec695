use Rattle.std.proofs.Common.{codes}
use Rattle.gas_tool_cli.specs.Inner.{leaf_app}
use Rattle.gas_tool_cli.specs.Words.{run_rules, side_rule, subcommand}
use Rattle.gas_tool_cli.proofs.command.coarse_command.Goals as goal

pub returns-clause-app : goal.returns-clause-app
returns-clause-app c =
    let run = c.run_command-run.ensures.app in
    let wide = c.with_arg-wide.ensures.app (leaf_app (subcommand (codes "coarse") run_rules)) (side_rule (codes "block-width")) run c.side_arg-width.ensures.rule in
    c.with_arg.ensures.app _ (side_rule (codes "block-height")) wide c.side_arg-height.ensures.rule
