use Rattle.std.proofs.Common.{List, ℕ, map, ap, ◌∙◌, refl, subst}
use Rattle.std.specs.Prelude.{Ok, IfOk, IfErr}
use Rattle.std.specs.Borrow.{Bor}
use Rattle.std.specs.String.{string_bytes}
use Rattle.std.specs.Vec.Iter.{into_iter_items}
use Rattle.std.proofs.lemmas.Iterator.{items_from_collect}
use Rattle.std.proofs.lemmas.Iterator.Adapters.{YieldsList-from_vec}
use Rattle.clap.specs.Words.{fault_of, subcommand_of}
use Rattle.gas_tool_cli.specs.Requests.{IsFaultOf, IsRequestOf}
use Rattle.gas_tool_cli.specs.Words.{program_app}
use Rattle.gas_tool_cli.proofs.words.parse_args.Goals as goal

pub returns-in-Ok-texts : goal.returns-in-Ok-texts
returns-in-Ok-texts c =
    let collected = items_from_collect {E = ℕ} (Ok c.in-Ok.words) c.in-Ok.ensures.ran (YieldsList-from_vec (into_iter_items c.args.words) refl c.args.words.rest.ok.0) in
    let same = ap (map (λ (s : Bor (List ℕ)). s.now)) c.as_slice-in-Ok-texts.ensures.value
    ∙ c.in-Ok-texts.ensures ∙ ap (map string_bytes) (c.as_slice.ensures.value ∙ collected) in
    record {
      allowed = c.parse_words.ensures.allowed;
      request = subst (λ (words : List (List ℕ)). IfOk c.parse_words.result (IsRequestOf (subcommand_of program_app words))) same c.parse_words.ensures.request;
      fault = subst (λ (words : List (List ℕ)). IfErr c.parse_words.result (IsFaultOf (fault_of program_app words))) same c.parse_words.ensures.fault;
    }
