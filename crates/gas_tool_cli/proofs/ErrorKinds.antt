-- Lemmas about the errors of a parse and its faults.
use Rattle.std.proofs.Common.{◌≢◌, [], ◌∷◌, inl, inr, ◌≡◌, refl, sym, ◌∙◌, subst}
use Rattle.std.specs.Prelude.{true}
use Rattle.clap.specs.Words.{Kinds, HasKind, IsAmong, kind_of, is_simple, is_simple_and_free}
use Rattle.clap.specs.declared.error.Error.{Error}
use Rattle.clap.specs.declared.error.kind.ErrorKind.{ErrorKind}
use Rattle.clap.specs.declared.error.kind.ErrorKind.TheVariants.{DisplayHelp, DisplayVersion, OutOfMemory}
use Rattle.clap.proofs.OnLiterals.{clap_on_literals}
use Rattle.gas_tool_cli.specs.Words.{program_app}
use Rattle.gas_tool_cli.specs.declared.words.UsageFault.{UsageFault}
use Rattle.gas_tool_cli.specs.declared.words.UsageFault.TheVariants as fault
use Rattle.gas_tool_cli.specs.Requests.{IsFaultOf}
use Rattle.gas_tool_cli.specs.Inner.{TellsKind}

-- the errors of the command's parses have known kinds
pub program_is_free : is_simple_and_free program_app ≡ true
unfolding clap_on_literals
program_is_free = refl

-- the matches of the command are given by the words
pub program_is_simple : is_simple program_app ≡ true
unfolding clap_on_literals
program_is_simple = refl

-- the fault of an error is of a kind that the words can have
pub fault_tells : (kinds : Kinds) (e : Error) (f : UsageFault) → HasKind kinds e → TellsKind (kind_of e) f → IsFaultOf kinds f
fault_tells kinds e fault.Memory h t = tt
fault_tells kinds e (fault.Help text) (inl memory) (inl t) = absurd (let bad : OutOfMemory ≡ DisplayHelp = sym memory ∙ t in cc)
fault_tells kinds e (fault.Help text) (inl memory) (inr t) = absurd (let bad : OutOfMemory ≡ DisplayVersion = sym memory ∙ t in cc)
fault_tells kinds e (fault.Help text) (inr among) (inl t) = inl (subst (λ (k : ErrorKind). IsAmong k kinds) t among)
fault_tells kinds e (fault.Help text) (inr among) (inr t) = inr (subst (λ (k : ErrorKind). IsAmong k kinds) t among)
fault_tells kinds e (fault.Usage text) (inl memory) t = absurd (t.2 memory)
fault_tells kinds e (fault.Usage text) (inr among) t = (
  (λ none. subst (IsAmong (kind_of e)) none among),
  (λ only. is_only DisplayHelp t.0 (subst (IsAmong (kind_of e)) only among)),
  (λ only. is_only DisplayVersion t.1 (subst (IsAmong (kind_of e)) only among)),
)
  where
    is_only : (k : ErrorKind) → kind_of e ≢ k → IsAmong (kind_of e) (k ∷ []) → ⊥
    is_only k other (inl same) = other same
    is_only k other (inr none) = none
