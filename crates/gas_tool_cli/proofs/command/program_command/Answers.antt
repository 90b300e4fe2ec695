use Rattle.std.proofs.Common.{[], ◌∷◌, ◌++◌, codes}
use Rattle.gas_tool_cli.specs.Words.{plan_rules, run_rules, side_rule, subcommand, turns_rule}
use Rattle.gas_tool_cli.proofs.command.program_command.Goals as goal

pub returns : goal.returns
returns c =
    let checks = c.with_command-checks.ensures.app _ (subcommand (codes "check") []) c.top_command.ensures c.new_command-check.ensures.app in
    let runs = c.with_command-runs.ensures.app _ (subcommand (codes "run") run_rules) checks c.run_command.ensures.app in
    let tables = c.with_command-tables.ensures.app _ (subcommand (codes "coarse") (run_rules ++ side_rule (codes "block-width") ∷ side_rule (codes "block-height") ∷ [])) runs c.coarse_command.ensures.app in
    c.with_command.ensures.app _ (subcommand (codes "replay") (plan_rules ++ turns_rule ∷ [])) tables c.replay_command.ensures.app
