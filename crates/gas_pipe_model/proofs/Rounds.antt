-- A round with a turn of every member brings the line at least one event on, until it is done.
use Rattle.std.proofs.Common.{◌≡◌, ℕ, zero, suc, ◌+◌, ◌≤◌, ◌<◌, true, false, cond, List, [], ◌∷◌, ◌++◌, ◌⊎◌, inl, inr, take, drop, refl, ap, sym, subst, ◌∙◌, arith}
use Rattle.std.specs.List.{Contains}
use Rattle.std.proofs.lemmas.Bool.{cases_Bool, cases_lt}
use Rattle.std.proofs.lemmas.List.{take-append-drop}
use Rattle.std.proofs.Math.Seq.{drop-cons}
use Rattle.gas_pipe_model.specs.Line.{Line, State, start, turn, moves, after_turns, events, is_done, HasRounds}
use Rattle.gas_pipe_model.specs.Inner.Line.{IsLine}
use Rattle.gas_pipe_model.proofs.Turns.{puts, takes, idles, turn_cases, Fits, fits_start}
use Rattle.gas_pipe_model.proofs.Kept.{fits_turn, fits_run}
use Rattle.gas_pipe_model.proofs.Progress.{progress}
use Rattle.gas_pipe_model.proofs.Totals.{total, most, total_turn, total_run, done_from_most, most_from_done}

pub run_append : (l : Line) (xs ys : List ℕ) (s : State) → after_turns l (xs ++ ys) s ≡ after_turns l ys (after_turns l xs s)
run_append l [] ys s = refl
run_append l (x ∷ xs) ys s = run_append l xs ys (turn l s x)

-- turns that are no events change nothing
run_still : (l : Line) (ms : List ℕ) (s : State) → events l ms s ≡ 0 → after_turns l ms s ≡ s
run_still l [] s h = refl
run_still l (m ∷ ms) s h =
    elim (turn_cases l s m) [
      | puts in_line short room event e ↦ absurd (let q : cond true 1 0 + events l ms (turn l s m) ≡ 0 = rw event at h in omega arith)
      | takes in_line short event e ↦ absurd (let q : cond true 1 0 + events l ms (turn l s m) ≡ 0 = rw event at h in omega arith)
      | idles nay e ↦
          let q : cond false 0 0 + events l ms (turn l s m) ≡ 0 = rw nay at h in
          run_still l ms (turn l s m) (omega arith) ∙ e
    ]

-- a round that has a turn of a member whose turn is an event now has an event
round_more : (l : Line) → IsLine l → (s : State) → Fits l s → (m : ℕ) (before after : List ℕ) → moves l s m ≡ true → total l.workers s < total l.workers (after_turns l (before ++ m ∷ after) s)
round_more l is s f m before after event =
    let fb = fits_run l is before s f in
    let ft = fits_turn l is (after_turns l before s) m fb in
    let a = total_run l is before s f in
    let c = total_run l is after (turn l (after_turns l before s) m) ft in
    let b = total_turn l (after_turns l before s) m fb in
    rw run_append (elim (cases_lt 0 (events l before s)) [
      | inl some ↦ omega arith
      | inr none ↦ (
          let same : after_turns l before s ≡ s = run_still l before s (omega arith) in
          let here : moves l (after_turns l before s) m ≡ true = rw same event in
          let b2 : total l.workers (turn l (after_turns l before s) m) ≡ cond true 1 0 + total l.workers (after_turns l before s) = rw here at b in
          omega arith)
    ])

round_on : (l : Line) → IsLine l → (s : State) → Fits l s → (round : List ℕ) → ((m : ℕ) → m ≤ l.workers → Contains round m) → is_done l s ≡ false → total l.workers s < total l.workers (after_turns l round s)
round_on l is s f round each not_done =
    let p = progress l s is f not_done in
    let there = each p.who p.in_line in
    let before = take there.0 round in
    let after = drop (suc there.0) round in
    let whole : before ++ p.who ∷ after ≡ round =
    ap (λ m. before ++ m ∷ after) (sym there.2) ∙ ap (λ ms. before ++ ms) (sym (drop-cons round there.0 p.who there.1)) ∙ take-append-drop there.0 round in
    subst (λ ms. total l.workers s < total l.workers (after_turns l ms s)) whole (round_more l is s f p.who before after p.moves)

rounds_on : (l : Line) → IsLine l → (n : ℕ) (turns : List ℕ) (s : State) → Fits l s → HasRounds l.workers n turns → (most l ≤ total l.workers (after_turns l turns s)) ⊎ (n + total l.workers s ≤ total l.workers (after_turns l turns s))
rounds_on l is zero turns s f h = inr (omega (arith, total_run l is turns s f))
rounds_on l is (suc n) turns s f (round, (rest, (e, (each, more)))) =
    elim (cases_Bool (is_done l s)) [
      | inl done ↦ inl (omega (arith, total_run l is turns s f, most_from_done l is s f done))
      | inr not_done ↦
          let one = round_on l is s f round each not_done in
          let f1 = fits_run l is round s f in
          let split : after_turns l turns s ≡ after_turns l rest (after_turns l round s) = ap (λ v. after_turns l v s) (sym e) ∙ run_append l round rest s in
          rw split (elim (rounds_on l is n rest (after_turns l round s) f1 more) [
            | inl all ↦ inl all
            | inr on ↦ inr (omega arith)
          ])
    ]

pub done_after : (l : Line) → IsLine l → (turns : List ℕ) → HasRounds l.workers (most l) turns → is_done l (after_turns l turns start) ≡ true
done_after l is turns h =
    let f = fits_run l is turns start (fits_start l) in
    done_from_most l is (after_turns l turns start) f
    (elim (rounds_on l is (most l) turns start (fits_start l) h) [
      | inl all ↦ all
      | inr on ↦ omega arith
    ])
