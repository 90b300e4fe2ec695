use Rattle.std.proofs.Common.{◌∙◌, [], List, Option, sym, map, subst}
use Rattle.std.specs.Prelude.{IfSome, codes, unwrap_or}
use Rattle.clap.specs.Words.{Text, found_of}
use Rattle.clap.proofs.WalkLemmas.{raw_values-rows}
use Rattle.std.specs.List.{AllZip}
use Rattle.gas_tool_cli.specs.Requests.{IsNumber}
use Rattle.gas_tool_cli.proofs.matches.turns_of.Goals as goal

pub returns-in_default : goal.returns-in_default
returns-in_default c =
    let found = found_of c.args.options.now in
    let stand = c.in_default.ensures ∙ raw_values-rows found (codes "turns") in
    subst (λ (o : Option (List Text)). AllZip (IsNumber 32) (unwrap_or o []) c.new-in_default.result) stand
    (subst (AllZip (IsNumber 32) []) (sym (c.new-in_default.ensures.value ∙ c.new.ensures.items)) tt)

pub returns-in-Some-2 : goal.returns-in-Some-2
returns-in-Some-2 c =
    let found = found_of c.args.options.now in
    let stand = c.in-Some.ensures ∙ raw_values-rows found (codes "turns") in
    let texts : List Text = map (λ w. w.now) c.in-Some.words.now in
    let read = subst (λ o. IfSome o (λ numbers. AllZip (IsNumber 32) texts numbers.items)) c.in-Some-2.is c.in_ok-turns.ensures in
    subst (λ (o : Option (List Text)). AllZip (IsNumber 32) (unwrap_or o []) c.new-in-Some-2.result) stand
    (subst (AllZip (IsNumber 32) texts) (sym c.new-in-Some-2.ensures.value) read)
