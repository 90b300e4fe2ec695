use Rattle.std.proofs.Common.{[], ◌∷◌, ◌≡◌, ◌∙◌, ℕ, List, Option, Some, None, ap, refl, sym, subst, arith}
use Rattle.std.specs.Prelude.{IsSomeAnd, codes, slice_index_or}
use Rattle.clap.specs.Words.{Row, Text, one_of, subcommand_of}
use Rattle.clap.proofs.OnLiterals.{clap_on_literals}
use Rattle.gas_tool_cli.specs.Words.{program_app}
use Rattle.gas_tool_cli.specs.Requests.{IsGivenAt, IsNumber}
use Rattle.gas_tool_cli.proofs.OneRequest.{apart}
use Rattle.gas_tool_cli.proofs.examples.words_without_a_request.Goals as goal

pub returns-clause-no_subcommand : goal.returns-clause-no_subcommand
unfolding clap_on_literals
returns-clause-no_subcommand c asked = asked

pub returns-clause-named_run : goal.returns-clause-named_run
returns-clause-named_run c rows stages capacity generations width height asked = apart 117 111 refl (ap (λ (t : Text). slice_index_or t 1 0) asked.0)

pub returns-clause-generations : goal.returns-clause-generations
unfolding clap_on_literals
returns-clause-generations c asked = let few = asked.2.generations_at.0.1 in absurd (omega (arith, few))

rows_in : Option (Text × List Row) → List Row
rows_in None = []
rows_in (Some sub) = sub.1

too_large : (rows : List Row) (given : Option ℕ) → one_of (codes "stages") rows ≡ Some (codes "4294967296") → IsGivenAt rows (codes "stages") given → ⊥
too_large rows None is none = absurd (let bad : Some (codes "4294967296") ≡ None = sym is ∙ none in cc)
too_large rows (Some n) is number =
    let few = (subst (λ (o : Option Text). IsSomeAnd o (λ text. IsNumber 32 text n)) is number).0.1 in absurd (omega (arith, few))

pub returns-clause-stages : goal.returns-clause-stages
unfolding clap_on_literals rows_in
returns-clause-stages c asked =
    too_large (rows_in (subcommand_of program_app (codes "fhpgas" ∷ codes "run" ∷ codes "--generations" ∷ codes "1" ∷ codes "--stages" ∷ codes "4294967296" ∷ [])))
    asked.2.stages_at.0 refl asked.2.stages_at.1

pub returns-clause-turn : goal.returns-clause-turn
unfolding clap_on_literals
returns-clause-turn c asked = let few = asked.2.0.0.1 in absurd (omega (arith, few))

pub returns-clause-no_column : goal.returns-clause-no_column
unfolding clap_on_literals
returns-clause-no_column c asked = let some = asked.3.1 in absurd (omega (arith, some))

pub returns-clause-too_high : goal.returns-clause-too_high
unfolding clap_on_literals
returns-clause-too_high c asked = let few = asked.4.2 in absurd (omega (arith, few))
