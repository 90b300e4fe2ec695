use Rattle.std.proofs.Common.{[], ◌+◌, ◌≤◌, ◌∙◌, ℕ, List, length, sym, subst}
use Rattle.std.proofs.lemmas.List.{append-nil}
use Rattle.std.specs.Prelude.{Result, Ok, Err, OnOk, IfErr, ⊤}
use Rattle.rtrb.specs.Ring.{received, known_items}
use Rattle.rtrb.specs.declared.errors.ChunkError.{ChunkError}
use Rattle.gas_belt.proofs.Ends.{none_lost}
use Rattle.gas_belt.proofs.pop_end.PopEnd.pop_by_value.Goals as goal

by_result : (r : Result ⊤ ChunkError) (A : Type 0) (B : ChunkError → Type 0) (C : Type 0) → (A → C) → ((e : ChunkError) → B e → C) → OnOk r A → IfErr r B → C
by_result (Ok _) A B C of_ok of_err ok err = of_ok ok
by_result (Err e) A B C of_ok of_err ok err = of_err e err

pub returns-clause-known : goal.returns-clause-known
returns-clause-known g c =
    let before = received c.args.self.ring in
    let known = known_items c.args.self.ring in
    let after = c.pop_entire_slice.new.self in
    let size = length before + length known in
    by_result c.pop_entire_slice.result _ _ _
    (λ ok. subst (λ (l : List ℕ). size ≤ length l + length (known_items after)) (sym ok.0) (none_lost before known c.pop_entire_slice.new.slice (known_items after) ok.1))
    (λ e err. subst (λ (l : List ℕ). size ≤ length l + length (known_items after)) (append-nil before ∙ sym err.0.1) (none_lost before known [] (known_items after) err.0.2))
    c.pop_entire_slice.ensures.ok c.pop_entire_slice.ensures.empty
