-- The answers to the words' request on the same bytes agree.
use Rattle.std.proofs.Common.{◌≡◌, ◌≢◌, ◌≤◌, ◌+◌, ◌++◌, ◌∙◌, ◌⊎◌, inl, inr, ℕ, List, length, take, Option, Some, Result, Ok, Err, ap, ap₂, refl, sym, subst, arith}
use Rattle.std.proofs.Math.Seq.{take-append-add}
use Rattle.std.proofs.lemmas.Grind.{common_steps}
use Rattle.std.specs.Prelude.{⊤}
use Rattle.gas_tool_cli.specs.Requests.{Words}
use Rattle.gas_tool_cli.proofs.OneRequest.{one_asked}
use Rattle.gas_tool.specs.Outcome.{Performs, outcome}
use Rattle.gas_tool.specs.Program.{Answers}
use Rattle.gas_tool.specs.declared.faults.ToolError.{ToolError}
use Rattle.gas_tool.specs.declared.faults.ToolError.TheVariants as tool

-- two answers to the same words and bytes are to the same outcome
pub same_outcome : (words : Words) (bytes : List ℕ) (old old2 new new2 : Option (List ℕ)) (result result2 : Result ⊤ ToolError)
    → (a : Answers words (Some bytes) old new result) (b : Answers words (Some bytes) old2 new2 result2) → Performs (outcome a.text a.request) old2 new2 result2
same_outcome words bytes old old2 new new2 result result2 a b =
    let text : b.text ≡ a.text = b.whole ∙ sym a.whole in
    let request : b.request ≡ a.request = one_asked words b.request a.request b.asked a.asked in
    subst (λ (o : Result (List ℕ) ToolError). Performs o old2 new2 result2) (ap₂ outcome text request) b.performed

pub same_text : (expected : Result (List ℕ) ToolError) (old new new2 : List ℕ) (done done2 : ⊤)
    → Performs expected (Some old) (Some new) (Ok done) → Performs expected (Some old) (Some new2) (Ok done2) → new2 ≡ new
same_text (Err fault) old new new2 done done2 a b = absurd a
same_text (Ok text) old new new2 done done2 a b = b ∙ sym a

pub part_of_text : (expected : Result (List ℕ) ToolError) (old new new2 : List ℕ) (done : ⊤) (n : ℕ)
    → Performs expected (Some old) (Some new) (Ok done) → Performs expected (Some old) (Some new2) (Err (tool.Write n)) → new2 ≡ take (length old + n) new
part_of_text (Err fault) old new new2 done n a b = absurd a
part_of_text (Ok text) old new new2 done n a b =
    b.1 ∙ sym (take-append-add old text n) ∙ ap (take (length old + n)) (sym a)

pub part_of_part : (expected : Result (List ℕ) ToolError) (old new new2 : List ℕ) (m n : ℕ) → m ≤ n
    → Performs expected (Some old) (Some new) (Err (tool.Write n)) → Performs expected (Some old) (Some new2) (Err (tool.Write m)) → new2 ≡ take (length old + m) new
part_of_part (Err fault) old new new2 m n less a b = absurd a
part_of_part (Ok text) old new new2 m n less a b =
    let shorter : take m (take n text) ≡ take m text = grind (arith, common_steps) in
    b.1 ∙ ap (λ (t : List ℕ). old ++ t) (sym shorter) ∙ sym (take-append-add old (take n text) m) ∙ ap (take (length old + m)) (sym a.1)

pub not_refused : (expected : Result (List ℕ) ToolError) (old old2 new new2 : Option (List ℕ)) (done : ⊤) (fault : ToolError)
    → Performs expected old new (Ok done) → Performs expected old2 new2 (Err fault) → (fault ≡ tool.Memory) ⊎ ((n : ℕ) × (fault ≡ tool.Write n))
not_refused (Err error) old old2 new new2 done fault a b = absurd a
not_refused (Ok text) old old2 new new2 done tool.Memory a b = inl refl
not_refused (Ok text) old old2 new new2 done (tool.Write n) a b = inr (n, refl)
not_refused (Ok text) old old2 new new2 done (tool.Scene e) a b = absurd (let bad : Ok text ≡ Err (tool.Scene e) = b.0 in cc)
not_refused (Ok text) old old2 new new2 done (tool.Plan e) a b = absurd (let bad : Ok text ≡ Err (tool.Plan e) = b.0 in cc)
not_refused (Ok text) old old2 new new2 done tool.MorePasses a b = absurd (let bad : Ok text ≡ Err tool.MorePasses = b.0 in cc)

-- the fault that is expected, if it is neither of memory nor of the writer
expected_fault : (expected : Result (List ℕ) ToolError) (old new : Option (List ℕ)) (fault : ToolError)
    → fault ≢ tool.Memory → ((n : ℕ) → fault ≢ tool.Write n) → Performs expected old new (Err fault) → expected ≡ Err fault
expected_fault expected old new tool.Memory memory write a = absurd (memory refl)
expected_fault expected old new (tool.Write n) memory write a = absurd (write n refl)
expected_fault expected old new (tool.Scene e) memory write a = a.0
expected_fault expected old new (tool.Plan e) memory write a = a.0
expected_fault expected old new tool.MorePasses memory write a = a.0

fault_of_outcome : (error : ToolError) (old new : Option (List ℕ)) (fault : ToolError) → Performs (Err error) old new (Err fault) → (fault ≡ tool.Memory) ⊎ (fault ≡ error)
fault_of_outcome error old new tool.Memory a = inl refl
fault_of_outcome error old new (tool.Write n) a = absurd a
fault_of_outcome error old new (tool.Scene e) a = inr (let same : Err error ≡ Err (tool.Scene e) = a.0 in cc)
fault_of_outcome error old new (tool.Plan e) a = inr (let same : Err error ≡ Err (tool.Plan e) = a.0 in cc)
fault_of_outcome error old new tool.MorePasses a = inr (let same : Err error ≡ Err tool.MorePasses = a.0 in cc)

pub same_fault : (expected : Result (List ℕ) ToolError) (old old2 new new2 : Option (List ℕ)) (fault fault2 : ToolError)
    → fault ≢ tool.Memory → ((n : ℕ) → fault ≢ tool.Write n)
    → Performs expected old new (Err fault) → Performs expected old2 new2 (Err fault2) → (fault2 ≡ tool.Memory) ⊎ (fault2 ≡ fault)
same_fault expected old old2 new new2 fault fault2 memory write a b =
    fault_of_outcome fault old2 new2 fault2
    (subst (λ (o : Result (List ℕ) ToolError). Performs o old2 new2 (Err fault2)) (expected_fault expected old new fault memory write a) b)
