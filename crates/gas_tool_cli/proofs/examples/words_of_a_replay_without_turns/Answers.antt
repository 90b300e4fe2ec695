use Rattle.std.proofs.Common.{[], ◌∷◌, ◌≡◌, List, Option, None, refl, arith, rules}
use Rattle.std.specs.Prelude.{codes}
use Rattle.clap.specs.Words.{Row, Text, subcommand_of}
use Rattle.clap.proofs.OnLiterals.{clap_on_literals}
use Rattle.gas_tool_cli.specs.Words.{program_app}
use Rattle.gas_tool_cli.specs.Requests.{IsRequestOf}
use Rattle.gas_tool_cli.specs.declared.words.Request.{Request}
use Rattle.gas_tool_cli.specs.declared.words.Request.TheVariants.{Replay}
use Rattle.gas_tool_cli.proofs.OneRequest.{apart, not_asked}
use Rattle.gas_tool_cli.proofs.examples.words_of_a_replay_without_turns.Goals as goal

abbrev entered : Option (Text × List Row)
entered = subcommand_of program_app (codes "fhpgas" ∷ codes "replay" ∷ codes "--generations" ∷ codes "3" ∷ [])

asked : IsRequestOf entered (Replay 4 2 3 [])
unfolding clap_on_literals
asked = (
  refl,
  record {
    stages_at = (None, refl, refl);
    capacity_at = (None, refl, refl);
    generations_at = ((search rules, omega arith), refl);
  },
  tt,
)

pub returns-clause-asked : goal.returns-clause-asked
returns-clause-asked c = asked

other : (r : Request) → (Replay 4 2 3 [] ≡ r → ⊥) → IsRequestOf entered r → ⊥
other r = not_asked entered (Replay 4 2 3 []) r asked

pub returns-clause-not_asked : goal.returns-clause-not_asked
returns-clause-not_asked c = (
  other _ (λ e. absurd cc),
  other _ (λ e. apart 4 3 refl cc),
)
