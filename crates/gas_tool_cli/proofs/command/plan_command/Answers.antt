use Rattle.std.proofs.Common.{true, ap, ◌∙◌, codes}
use Rattle.clap.specs.declared.builder.value_parser.ValueParser.TheVariants.{Unsigned}
use Rattle.clap.specs.Words.{Rule, new_app, rule_of}
use Rattle.gas_tool_cli.specs.Words.{number_rule, option_rule, required_rule}
use Rattle.gas_tool_cli.proofs.command.plan_command.Goals as goal

pub returns-clause-app : goal.returns-clause-app
returns-clause-app c =
    let generations = ap rule_of c.required.ensures ∙ ap (λ (r : Rule). record r { required = true })
    (c.option_arg-generations.ensures.rule ∙ ap (option_rule (codes "generations")) c.value_parser-values.ensures) in
    let first = c.with_arg-first.ensures.app (new_app c.args.name.now) (required_rule (codes "generations") (Unsigned 0 18446744073709551615)) c.new_command-command.ensures.app generations in
    let second = c.with_arg-second.ensures.app _ (number_rule (codes "stages")) first c.number_arg.ensures.rule in
    c.with_arg.ensures.app _ (number_rule (codes "capacity")) second c.number_arg-2.ensures.rule
