-- What a turn does, by cases, and what every turn keeps.
use Rattle.std.proofs.Common.{◌≡◌, ℕ, zero, suc, ◌+◌, ◌≤◌, ◌<◌, true, false, ◌||◌, eqb, ltb, List, [], ◌++◌, inl, inr, length, refl, arith}
use Rattle.std.proofs.lemmas.Bool.{cases_Bool, ltb-true, ltb-false, eq-eqb, ne_eqb, cond-true, cond-false, and_parts}
use Rattle.gas_rows.specs.Row.{RowModel}
use mathlib.Core.List.{IsPrefix}
use Rattle.gas_pipe_model.specs.Line.{Line, State, start, owed_on, grown, put_open, take_open, source, turn, moves}
use Rattle.gas_pipe_model.specs.Inner.Line.{after_put, after_take, rows_in_the_end, IsLine}
use Rattle.gas_pipe_model.proofs.Prefixes.{next, trans_prefix, prefix_length}

pub grown_same : (f : ℕ → List RowModel) (k : ℕ) (rows : List RowModel) → grown f k rows k ≡ f k ++ next (f k) rows
unfolding grown
grown_same f k rows = cond-true (eqb k k) (f k ++ next (f k) rows) (f k) (eq-eqb k k refl)

pub grown_other : (f : ℕ → List RowModel) (k : ℕ) (rows : List RowModel) (j : ℕ) → (j ≡ k → ⊥) → grown f k rows j ≡ f j
unfolding grown
grown_other f k rows j h = cond-false (eqb j k) (f k ++ next (f k) rows) (f j) (ne_eqb j k h)

pub data Turned (l : Line) (s : State) (m : ℕ) : Type 0 where
  puts : m ≤ l.workers → length (s.put m) < length (owed_on l s m) → length (s.put m) < length (s.taken m) + l.capacity → moves l s m ≡ true → turn l s m ≡ after_put l s m → Turned l s m
  takes : m ≤ l.workers → length (s.taken (source l m)) < length (s.put (source l m)) → moves l s m ≡ true → turn l s m ≡ after_take s (source l m) → Turned l s m
  idles : moves l s m ≡ false → turn l s m ≡ s → Turned l s m

pub turn_out : (l : Line) (s : State) (m : ℕ) → ltb l.workers m ≡ true → (moves l s m ≡ false) × (turn l s m ≡ s)
unfolding turn moves
turn_out l s m h = (rw h refl, rw h refl)

pub turn_put : (l : Line) (s : State) (m : ℕ) → ltb l.workers m ≡ false → put_open l s m ≡ true → (moves l s m ≡ true) × (turn l s m ≡ after_put l s m)
unfolding turn moves
turn_put l s m h p = (rw (h, p) refl, rw (h, p) refl)

pub turn_take : (l : Line) (s : State) (m : ℕ) → ltb l.workers m ≡ false → put_open l s m ≡ false → take_open l s (source l m) ≡ true → (moves l s m ≡ true) × (turn l s m ≡ after_take s (source l m))
unfolding turn moves
turn_take l s m h p t = (rw (h, p, t) refl, rw (h, p, t) refl)

pub turn_idle : (l : Line) (s : State) (m : ℕ) → ltb l.workers m ≡ false → put_open l s m ≡ false → take_open l s (source l m) ≡ false → (moves l s m ≡ false) × (turn l s m ≡ s)
unfolding turn moves
turn_idle l s m h p t = (rw (h, p, t) refl, rw (h, p, t) refl)

pub put_opens : (l : Line) (s : State) (k : ℕ) → put_open l s k ≡ true → (length (s.put k) < length (owed_on l s k)) × (length (s.put k) < length (s.taken k) + l.capacity)
unfolding put_open
put_opens l s k h =
    let p = and_parts (ltb (length (s.put k)) (length (owed_on l s k))) (ltb (length (s.put k)) (length (s.taken k) + l.capacity)) h in
    (ltb-true (length (s.put k)) (length (owed_on l s k)) p.0, ltb-true (length (s.put k)) (length (s.taken k) + l.capacity) p.1)

pub take_opens : (l : Line) (s : State) (k : ℕ) → take_open l s k ≡ true → length (s.taken k) < length (s.put k)
unfolding take_open
take_opens l s k h =
    ltb-true (length (s.taken k)) (length (s.put k)) (and_parts (ltb (length (s.taken k)) (length (s.put k))) (eqb k l.workers || eqb (length (s.put (suc k))) (length (owed_on l s (suc k)))) h).0

pub turn_cases : (l : Line) (s : State) (m : ℕ) → Turned l s m
turn_cases l s m =
    elim (cases_Bool (ltb l.workers m)) [
      | inl out ↦ (let t = turn_out l s m out in idles t.0 t.1)
      | inr in_line ↦
          elim (cases_Bool (put_open l s m)) [
            | inl p ↦ (let t = turn_put l s m in_line p in let o = put_opens l s m p in puts (ltb-false l.workers m in_line) o.0 o.1 t.0 t.1)
            | inr np ↦
                elim (cases_Bool (take_open l s (source l m))) [
                  | inl q ↦ (let t = turn_take l s m in_line np q in takes (ltb-false l.workers m in_line) (take_opens l s (source l m) q) t.0 t.1)
                  | inr nq ↦ (let t = turn_idle l s m in_line np nq in idles t.0 t.1)
                ]
          ]
    ]

-- what every turn keeps
pub record Fits (l : Line) (s : State) : Type 0 where
  pub taken : (k : ℕ) → IsPrefix (s.taken k) (s.put k)
  pub put : (k : ℕ) → k ≤ l.workers → IsPrefix (s.put k) (owed_on l s k)
  pub under_way : (k : ℕ) → length (s.put k) ≤ length (s.taken k) + l.capacity

pub carried_length : (l : Line) → IsLine l → (k : ℕ) → length (rows_in_the_end l k) ≡ length l.rows
carried_length l is zero = refl
carried_length l is (suc k) = is.all (suc k) (rows_in_the_end l k) (carried_length l is k)

pub owe_prefix : (l : Line) → IsLine l → (k : ℕ) (xs ys : List RowModel) → IsPrefix xs ys → length ys ≤ length l.rows → IsPrefix (l.owe k xs) (l.owe k ys)
owe_prefix l is k xs ys p h = rw (← p.1) (is.grows k xs p.0 (rw p.1 h))

-- every list is the beginning of what its belt carries in the end
pub put_carried : (l : Line) → IsLine l → (s : State) → Fits l s → (k : ℕ) → k ≤ l.workers → IsPrefix (s.put k) (rows_in_the_end l k)
put_carried l is s f zero h = f.put zero h
put_carried l is s f (suc k) h =
    let below = put_carried l is s f k (omega arith) in
    trans_prefix _ _ _ (f.put (suc k) h)
    (owe_prefix l is (suc k) (s.taken k) (rows_in_the_end l k) (trans_prefix _ _ _ (f.taken k) below) (omega (arith, carried_length l is k)))

pub put_short : (l : Line) → IsLine l → (s : State) → Fits l s → (k : ℕ) → k ≤ l.workers → length (s.put k) ≤ length l.rows
put_short l is s f k h = omega (arith, prefix_length _ _ (put_carried l is s f k h), carried_length l is k)

pub fits_start : (l : Line) → Fits l start
fits_start l = record {
  taken = λ k. ([], refl);
  put = λ k h. (owed_on l start k, refl);
  under_way = λ k. omega arith;
}
