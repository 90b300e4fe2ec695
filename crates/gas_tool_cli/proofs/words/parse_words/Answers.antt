use Rattle.std.proofs.Common.{◌≡◌, ◌∙◌, List, ap, subst, map, true}
use Rattle.std.specs.Prelude.{IfSome, Option}
use Rattle.clap.specs.Words.{App, HasKind, Row, Text, app_of, fault_of, is_simple, is_simple_and_free, subcommand_of, subcommand_rows_of}
use Rattle.gas_tool_cli.proofs.ErrorKinds.{fault_tells, program_is_free, program_is_simple}
use Rattle.gas_tool_cli.specs.Requests.{IsRequestOf}
use Rattle.gas_tool_cli.proofs.words.parse_words.Goals as goal

pub returns-clause-fault : goal.returns-clause-fault
returns-clause-fault c =
    let free : is_simple_and_free (app_of c.in-Ok.command) ≡ true = ap is_simple_and_free c.in-Ok.ensures ∙ program_is_free in
    let kinds = subst (λ (a : App). HasKind (fault_of a (map (λ s. s.now) c.args.words.now)) c.in-Err.error) c.in-Ok.ensures (c.in-Err.ensures.kinds free) in
    fault_tells _ c.in-Err.error _ kinds c.usage_of.ensures

pub returns-in-Ok-Some-clause-request : goal.returns-in-Ok-Some-clause-request
returns-in-Ok-Some-clause-request c =
    let words : List Text = map (λ s. s.now) c.args.words.now in
    let entered = (c.in-Ok-try_get_matches_from.ensures.matches (ap is_simple c.in-Ok.ensures ∙ program_is_simple)).1
    ∙ ap (λ (a : App). subcommand_of a words) c.in-Ok.ensures in
    let request = subst (λ o. IfSome o (IsRequestOf (subcommand_rows_of c.in-Ok-try_get_matches_from.matches))) c.in-Ok-Some.field-0-is c.in-Ok-Some.ensures in
    subst (λ (sub : Option (Text × List Row)). IsRequestOf sub c.in-Ok-Some.request) entered request
