use Rattle.std.proofs.Common.{[], ◌∷◌, ◌≡◌, ◌∙◌, List, None, inl, inr, ap, refl, sym, subst}
use Rattle.std.specs.Prelude.{codes, slice_index_or, String}
use Rattle.std.specs.Global.{Global}
use Rattle.clap.specs.Words.{Kinds, Text, fault_of, subcommand_of}
use Rattle.clap.specs.declared.error.kind.ErrorKind.{ErrorKind}
use Rattle.clap.specs.declared.error.kind.ErrorKind.TheVariants.{DisplayHelp, DisplayVersion, InvalidValue, MissingRequiredArgument}
use Rattle.clap.proofs.OnLiterals.{clap_on_literals}
use Rattle.gas_tool_cli.specs.Words.{program_app}
use Rattle.gas_tool_cli.specs.Requests.{IsFaultOf, IsRequestOf}
use Rattle.gas_tool_cli.specs.declared.words.Request.TheVariants.{Check, Run}
use Rattle.gas_tool_cli.specs.declared.words.UsageFault.{UsageFault}
use Rattle.gas_tool_cli.specs.declared.words.UsageFault.TheVariants.{Help, Usage}
use Rattle.gas_tool_cli.proofs.OneRequest.{apart}
use Rattle.gas_tool_cli.proofs.examples.faults_of_words.Goals as goal

no_help : (kind : ErrorKind) (text : String Global) → (DisplayHelp ≡ kind → ⊥) → (DisplayVersion ≡ kind → ⊥) → IsFaultOf (kind ∷ []) (Help text) → ⊥
no_help kind text help version (inl (inl is)) = help is
no_help kind text help version (inl (inr none)) = none
no_help kind text help version (inr (inl is)) = version is
no_help kind text help version (inr (inr none)) = none

nor_help : (text : String Global) → IsFaultOf [] (Help text) → ⊥
nor_help text (inl none) = none
nor_help text (inr none) = none

-- words have no fault that their kinds do not have
excludes : (fault : UsageFault) (words known : List Text) (kinds : Kinds) → words ≡ known → fault_of program_app known ≡ kinds
    → (IsFaultOf kinds fault → ⊥) → IsFaultOf (fault_of program_app words) fault → ⊥
excludes fault words known kinds are of not has = not (subst (λ k. IsFaultOf k fault) (ap (fault_of program_app) are ∙ of) has)

pub returns-clause-no_help_without_words : goal.returns-clause-no_help_without_words
returns-clause-no_help_without_words c error text = no_help InvalidValue text (λ e. absurd cc) (λ e. absurd cc)

check : List Text
check = codes "fhpgas" ∷ codes "check" ∷ []

right : fault_of program_app check ≡ []
unfolding clap_on_literals check
right = refl

asks_check : IsRequestOf (subcommand_of program_app check) Check
unfolding clap_on_literals check
asks_check = refl

asks_no_run : IsRequestOf (subcommand_of program_app check) (Run 4 2 0 None) → ⊥
unfolding clap_on_literals check
asks_no_run asked = apart 104 117 refl (ap (λ (t : Text). slice_index_or t 1 0) asked.0)

pub returns-clause-check : goal.returns-clause-check
unfolding check
returns-clause-check c words text are = (
  subst (λ (ws : List Text). IsRequestOf (subcommand_of program_app ws) Check) (sym are) asks_check,
  excludes (Usage text) _ check [] are right (λ has. has.0 refl),
  excludes (Help text) _ check [] are right (nor_help text),
  (λ asked. asks_no_run (subst (λ (ws : List Text). IsRequestOf (subcommand_of program_app ws) (Run 4 2 0 None)) are asked)),
)

pub returns-clause-no_generations : goal.returns-clause-no_generations
unfolding clap_on_literals
returns-clause-no_generations c words text are =
    excludes (Help text) _ (codes "fhpgas" ∷ codes "run" ∷ []) (MissingRequiredArgument ∷ []) are refl (no_help MissingRequiredArgument text (λ e. absurd cc) (λ e. absurd cc))

pub returns-clause-help : goal.returns-clause-help
unfolding clap_on_literals
returns-clause-help c words text are =
    excludes (Usage text) _ (codes "fhpgas" ∷ codes "--help" ∷ []) (DisplayHelp ∷ []) are refl (λ has. has.1 refl)

pub returns-clause-version : goal.returns-clause-version
unfolding clap_on_literals
returns-clause-version c words text are =
    excludes (Usage text) _ (codes "fhpgas" ∷ codes "--version" ∷ []) (DisplayVersion ∷ []) are refl (λ has. has.2 refl)
