use Rattle.std.proofs.Common.{codes}
use Rattle.gas_tool_cli.specs.Inner.{leaf_app}
use Rattle.gas_tool_cli.specs.Words.{plan_rules, subcommand, turns_rule}
use Rattle.gas_tool_cli.proofs.command.replay_command.Goals as goal

pub returns-clause-app : goal.returns-clause-app
returns-clause-app c =
    c.with_arg.ensures.app (leaf_app (subcommand (codes "replay") plan_rules)) turns_rule c.plan_command-plan.ensures.app c.turns_arg.ensures.rule
