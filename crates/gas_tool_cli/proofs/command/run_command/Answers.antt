use Rattle.std.proofs.Common.{codes}
use Rattle.gas_tool_cli.specs.Inner.{leaf_app}
use Rattle.gas_tool_cli.specs.Words.{number_rule, plan_rules, subcommand}
use Rattle.gas_tool_cli.proofs.command.run_command.Goals as goal

pub returns-clause-app : goal.returns-clause-app
returns-clause-app c =
    c.with_arg.ensures.app (leaf_app (subcommand c.args.name.now plan_rules)) (number_rule (codes "threads")) c.plan_command-plan.ensures.app c.number_arg.ensures.rule
