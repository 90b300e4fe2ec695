-- If the line is not done, some member's turn is an event.
use Rattle.std.proofs.Common.{◌≡◌, ℕ, zero, suc, ◌+◌, ◌≤◌, true, false, ◌||◌, eqb, ltb, length, ◌⊎◌, inl, inr, refl, sym, ◌∙◌, subst, arith}
use Rattle.std.proofs.lemmas.Bool.{cases_Bool, ltb-false, eq-eqb, le-ltb, and_cases, and_from, or_left, or_right, both_ways, cases_lt}
use Rattle.gas_pipe_model.specs.Line.{Line, State, owed_on, put_open, take_open, source, moves, is_done}
use Rattle.gas_pipe_model.specs.Inner.Line.{IsLine}
use Rattle.gas_pipe_model.proofs.Prefixes.{prefix_length}
use Rattle.gas_pipe_model.proofs.Turns.{Fits}

pub record Mover (l : Line) (s : State) : Type 0 where
  pub who : ℕ
  pub in_line : who ≤ l.workers
  pub moves : moves l s who ≡ true

put_moves : (l : Line) (s : State) (m : ℕ) → m ≤ l.workers → put_open l s m ≡ true → Mover l s
unfolding moves
put_moves l s m h p = record {
  who = m;
  in_line = h;
  moves = rw (le-ltb l.workers m h, p) refl;
}

take_moves : (l : Line) (s : State) (m : ℕ) → m ≤ l.workers → take_open l s (source l m) ≡ true → Mover l s
unfolding moves
take_moves l s m h p = record {
  who = m;
  in_line = h;
  moves = rw (le-ltb l.workers m h, p) (or_right (put_open l s m) true refl);
}

-- all that is owed on the belt was put on it, and all of that was taken
record Still (l : Line) (s : State) (k : ℕ) : Type 0 where
  all_put : length (s.put k) ≡ length (owed_on l s k)
  all_taken : length (s.taken k) ≡ length (s.put k)

no_take : (l : Line) (s : State) (k : ℕ) → Fits l s → (k ≡ l.workers) ⊎ (length (s.put (suc k)) ≡ length (owed_on l s (suc k))) → take_open l s k ≡ false → length (s.taken k) ≡ length (s.put k)
unfolding take_open
no_take l s k f may closed =
    let may_true : (eqb k l.workers || eqb (length (s.put (suc k))) (length (owed_on l s (suc k)))) ≡ true = elim may [
      | inl e ↦ or_left (eqb k l.workers) (eqb (length (s.put (suc k))) (length (owed_on l s (suc k)))) (eq-eqb k l.workers e)
      | inr e ↦ or_right (eqb k l.workers) (eqb (length (s.put (suc k))) (length (owed_on l s (suc k)))) (eq-eqb (length (s.put (suc k))) (length (owed_on l s (suc k))) e)
    ] in
    elim (and_cases (ltb (length (s.taken k)) (length (s.put k))) (eqb k l.workers || eqb (length (s.put (suc k))) (length (owed_on l s (suc k)))) closed) [
      | inl none ↦ omega (arith, ltb-false (length (s.taken k)) (length (s.put k)) none, prefix_length _ _ (f.taken k))
      | inr shut ↦ absurd (both_ways (eqb k l.workers || eqb (length (s.put (suc k))) (length (owed_on l s (suc k)))) shut may_true)
    ]

no_put : (l : Line) (s : State) (k : ℕ) → IsLine l → Fits l s → k ≤ l.workers → length (s.taken k) ≡ length (s.put k) → put_open l s k ≡ false → length (s.put k) ≡ length (owed_on l s k)
unfolding put_open
no_put l s k is f h taken closed =
    let room = is.room in
    elim (and_cases (ltb (length (s.put k)) (length (owed_on l s k))) (ltb (length (s.put k)) (length (s.taken k) + l.capacity)) closed) [
      | inl none ↦ omega (arith, ltb-false (length (s.put k)) (length (owed_on l s k)) none, prefix_length _ _ (f.put k h))
      | inr full ↦ absurd (omega (arith, ltb-false (length (s.put k)) (length (s.taken k) + l.capacity) full))
    ]

-- belt k, if the belt above it is still or k is the last
still_here : (l : Line) (s : State) (k m : ℕ) → IsLine l → Fits l s → k ≤ l.workers → m ≤ l.workers → source l m ≡ k → (k ≡ l.workers) ⊎ (length (s.put (suc k)) ≡ length (owed_on l s (suc k))) → Mover l s ⊎ Still l s k
still_here l s k m is f h in_line at may =
    elim (cases_Bool (take_open l s k)) [
      | inl t ↦ inl (take_moves l s m in_line (rw at t))
      | inr nt ↦
          let taken = no_take l s k f may nt in
          elim (cases_Bool (put_open l s k)) [
            | inl p ↦ inl (put_moves l s k h p)
            | inr np ↦ inr (record { all_put = no_put l s k is f h taken np; all_taken = taken })
          ]
    ]

-- downwards from the last belt, d belts on from k
still_from : (l : Line) (s : State) → IsLine l → Fits l s → (d k : ℕ) → k + d ≡ l.workers → Mover l s ⊎ ((i : ℕ) → k ≤ i → i ≤ l.workers → Still l s i)
still_from l s is f zero k e =
    let last : k ≡ l.workers = omega arith in
    elim (still_here l s k 0 is f (omega arith) (omega arith) (sym last) (inl last)) [
      | inl m ↦ inl m
      | inr st ↦ inr (λ i low high. let same : k ≡ i = omega arith in subst (λ j. Still l s j) same st)
    ]
still_from l s is f (suc d) k e =
    elim (still_from l s is f d (suc k) (omega arith)) [
      | inl m ↦ inl m
      | inr above ↦
          elim (still_here l s k (suc k) is f (omega arith) (omega arith) refl (inr (above (suc k) (omega arith) (omega arith)).all_put)) [
            | inl m ↦ inl m
            | inr st ↦ inr (λ i low high. elim (cases_lt k i) [
              | inl more ↦ above i more high
              | inr top ↦ (let same : k ≡ i = omega arith in subst (λ j. Still l s j) same st)
            ])
          ]
    ]

-- upwards: what is still has all rows
still_all : (l : Line) (s : State) → IsLine l → ((i : ℕ) → i ≤ l.workers → Still l s i) → (k : ℕ) → k ≤ l.workers → length (s.put k) ≡ length l.rows
still_all l s is st zero h = (st zero h).all_put
still_all l s is st (suc k) h =
    let low : k ≤ l.workers = omega arith in
    (st (suc k) h).all_put ∙ is.all (suc k) (s.taken k) ((st k low).all_taken ∙ still_all l s is st k low)

pub progress : (l : Line) (s : State) → IsLine l → Fits l s → is_done l s ≡ false → Mover l s
unfolding is_done
progress l s is f not_done =
    elim (still_from l s is f l.workers 0 (omega arith)) [
      | inl m ↦ m
      | inr st ↦
          let all : (i : ℕ) → i ≤ l.workers → Still l s i = λ i h. st i (omega arith) h in
          let first = still_all l s is all 0 (omega arith) in
          let last = (all l.workers (omega arith)).all_taken ∙ still_all l s is all l.workers (omega arith) in
          absurd (both_ways (is_done l s) not_done (and_from (eqb (length (s.put 0)) (length l.rows)) (eqb (length (s.taken l.workers)) (length l.rows)) (eq-eqb (length (s.put 0)) (length l.rows) first) (eq-eqb (length (s.taken l.workers)) (length l.rows) last)))
    ]
