-- When the ends of a belt are open, and the next row of a list.
use Rattle.std.proofs.Common.{◌≡◌, ℕ, suc, ◌+◌, ◌≤◌, ◌<◌, ◌⊎◌, inl, inr, true, false, ◌||◌, eqb, ltb, List, [], ◌∷◌, ◌++◌, length, take, refl, ap, ◌∙◌, arith, length-append}
use Rattle.std.proofs.lemmas.Bool.{cases_lt, le-ltb, lt-ltb, eq-eqb, and_from, and_left, and_right, or_left, or_right, or_from, ne_eqb}
use Rattle.std.proofs.lemmas.List.{drop_at}
use Rattle.gas_rows.specs.Row.{RowModel}
use Rattle.gas_pipe_model.specs.Line.{Line, State, owed_on, grown, put_open, take_open}
use Rattle.gas_pipe_model.proofs.Prefixes.{next}
use Rattle.gas_pipe_model.proofs.Turns.{grown_same}

next_row : (xs : List RowModel) (row : RowModel) (rest ys : List RowModel) → xs ++ row ∷ rest ≡ ys → next xs ys ≡ row ∷ []
next_row xs row rest ys e = rw (← e) (ap (take 1) (drop_at xs (row ∷ rest) (length xs) refl))

pub grown_by : (f : ℕ → List RowModel) (k : ℕ) (row : RowModel) (rest rows : List RowModel) → f k ++ row ∷ rest ≡ rows → grown f k rows k ≡ f k ++ row ∷ []
grown_by f k row rest rows e = grown_same f k rows ∙ ap (λ v. f k ++ v) (next_row (f k) row rest rows e)

pub longer : (xs : List RowModel) (row : RowModel) (rest ys : List RowModel) → xs ++ row ∷ rest ≡ ys → length xs < length ys
longer xs row rest ys e = omega (arith, length-append xs (row ∷ rest), ap length e)

module _ (l : Line) (s : State) (k : ℕ) where
  -- the put is shut if all was put, or the belt is full
  pub put_shut : (length (s.put k) < length (owed_on l s k) → length (s.taken k) + l.capacity ≤ length (s.put k)) → put_open l s k ≡ false
  unfolding put_open
  put_shut h =
      elim (cases_lt (length (s.put k)) (length (owed_on l s k))) [
        | inl more ↦ and_right (ltb (length (s.put k)) (length (owed_on l s k))) (ltb (length (s.put k)) (length (s.taken k) + l.capacity))
            (le-ltb (length (s.put k)) (length (s.taken k) + l.capacity) (h more))
        | inr all ↦ and_left (ltb (length (s.put k)) (length (owed_on l s k))) (ltb (length (s.put k)) (length (s.taken k) + l.capacity))
            (le-ltb (length (s.put k)) (length (owed_on l s k)) all)
      ]

  pub put_opened : length (s.put k) < length (owed_on l s k) → length (s.put k) < length (s.taken k) + l.capacity → put_open l s k ≡ true
  unfolding put_open
  put_opened a b =
      and_from (ltb (length (s.put k)) (length (owed_on l s k))) (ltb (length (s.put k)) (length (s.taken k) + l.capacity))
      (lt-ltb (length (s.put k)) (length (owed_on l s k)) a) (lt-ltb (length (s.put k)) (length (s.taken k) + l.capacity) b)

  pub take_opened : length (s.taken k) < length (s.put k) → (k ≡ l.workers) ⊎ (length (s.put (suc k)) ≡ length (owed_on l s (suc k))) → take_open l s k ≡ true
  unfolding take_open
  take_opened a may =
      and_from (ltb (length (s.taken k)) (length (s.put k))) (eqb k l.workers || eqb (length (s.put (suc k))) (length (owed_on l s (suc k))))
      (lt-ltb (length (s.taken k)) (length (s.put k)) a)
      (elim may [
        | inl e ↦ or_left (eqb k l.workers) (eqb (length (s.put (suc k))) (length (owed_on l s (suc k)))) (eq-eqb k l.workers e)
        | inr e ↦ or_right (eqb k l.workers) (eqb (length (s.put (suc k))) (length (owed_on l s (suc k))))
            (eq-eqb (length (s.put (suc k))) (length (owed_on l s (suc k))) e)
      ])

  pub take_shut : (length (s.taken k) < length (s.put k) → (k ≡ l.workers → ⊥) × (length (s.put (suc k)) ≡ length (owed_on l s (suc k)) → ⊥)) → take_open l s k ≡ false
  unfolding take_open
  take_shut h =
      elim (cases_lt (length (s.taken k)) (length (s.put k))) [
        | inl more ↦ and_right (ltb (length (s.taken k)) (length (s.put k))) (eqb k l.workers || eqb (length (s.put (suc k))) (length (owed_on l s (suc k))))
            (or_from (eqb k l.workers) (eqb (length (s.put (suc k))) (length (owed_on l s (suc k))))
            (ne_eqb k l.workers (h more).0) (ne_eqb (length (s.put (suc k))) (length (owed_on l s (suc k))) (h more).1))
        | inr all ↦ and_left (ltb (length (s.taken k)) (length (s.put k))) (eqb k l.workers || eqb (length (s.put (suc k))) (length (owed_on l s (suc k))))
            (le-ltb (length (s.taken k)) (length (s.put k)) all)
      ]
