-- How many rows were put and taken in all: one more with every event, and at most 2 * H * (N + 1).
use Rattle.std.proofs.Common.{◌≡◌, ℕ, zero, suc, ◌+◌, ◌*◌, ◌≤◌, ◌<◌, true, cond, eqb, List, [], ◌∷◌, inl, inr, length, ap, sym, ◌∙◌, subst, arith}
use Rattle.std.proofs.lemmas.Bool.{cases_eq, cases_lt, eqb-true, eq-eqb, and_parts, and_from}
use Rattle.std.proofs.Math.Nat.{mul_comm, suc-mul}
use Rattle.gas_geom.proofs.Sums.{sum_below, sum_below-cong, sum_below-zero}
use Rattle.gas_pipe_model.specs.Line.{Line, State, start, owed_on, source, turn, moves, after_turns, events, is_done}
use Rattle.gas_pipe_model.specs.Inner.Line.{after_put, after_take, rows_in_the_end, IsLine}
use Rattle.gas_pipe_model.proofs.Prefixes.{prefix_length, prefix_all, trans_prefix}
use Rattle.gas_pipe_model.proofs.Turns.{puts, takes, idles, turn_cases, grown_other, Fits, put_short, put_carried, carried_length}
use Rattle.gas_pipe_model.proofs.Kept.{grown_length, fits_turn}

-- one term is greater by one
sum_more : (f g : ℕ → ℕ) (n m : ℕ) → m < n → g m ≡ suc (f m) → ((j : ℕ) → (j ≡ m → ⊥) → g j ≡ f j) → sum_below n g ≡ suc (sum_below n f)
sum_more f g zero m h more same = absurd (omega arith)
sum_more f g (suc n) m h more same =
    elim (cases_eq m n) [
      | inl e ↦ (
          let here : g n ≡ suc (f n) = subst (λ i. g i ≡ suc (f i)) e more in
          let below = sum_below-cong n g f (λ j l. same j (λ q. omega arith)) in
          omega arith)
      | inr ne ↦ (
          let here = same n (λ q. ne (sym q)) in
          let below = sum_more f g n m (omega arith) more same in
          omega arith)
    ]

sum_all : (f : ℕ → ℕ) (n h : ℕ) → ((j : ℕ) → j < n → f j ≡ h) → sum_below n f ≡ n * h
sum_all f zero h same = omega arith
sum_all f (suc n) h same = omega (arith, sum_all f n h (λ j l. same j (omega arith)), same n (omega arith), suc-mul n h)

sum_bound : (f : ℕ → ℕ) (n h : ℕ) → ((j : ℕ) → j < n → f j ≤ h) → sum_below n f ≤ n * h
sum_bound f zero h le = omega arith
sum_bound f (suc n) h le = omega (arith, sum_bound f n h (λ j l. le j (omega arith)), le n (omega arith), suc-mul n h)

sum_most : (f : ℕ → ℕ) (n h : ℕ) → ((j : ℕ) → j < n → f j ≤ h) → n * h ≤ sum_below n f → (j : ℕ) → j < n → f j ≡ h
sum_most f zero h le e j l = absurd (omega arith)
sum_most f (suc n) h le e j l =
    let under = sum_bound f n h (λ i k. le i (omega arith)) in
    let last = le n (omega arith) in
    let product = suc-mul n h in
    elim (cases_lt j n) [
      | inl low ↦ sum_most f n h (λ i k. le i (omega arith)) (omega arith) j low
      | inr top ↦ (let z : n ≡ j = omega arith in subst (λ i. f i ≡ h) z (omega arith))
    ]

-- the rows put on belt k and taken from it, and those of the belts 0 to n
abbrev counted : State → ℕ → ℕ
counted s k = length (s.put k) + length (s.taken k)

abbrev pub total : ℕ → State → ℕ
total n s = sum_below (n + 1) (counted s)

pub total_start : (n : ℕ) → total n start ≡ 0
total_start n = sum_below-zero (n + 1)

source_in : (l : Line) (m : ℕ) → m ≤ l.workers → source l m ≤ l.workers
source_in l zero h = omega arith
source_in l (suc k) h = omega arith

pub total_turn : (l : Line) (s : State) (m : ℕ) → Fits l s → total l.workers (turn l s m) ≡ cond (moves l s m) 1 0 + total l.workers s
total_turn l s m f =
    elim (turn_cases l s m) [
      | puts in_line short room event e ↦
          let more = grown_length s.put m (owed_on l s m) (f.put m in_line) short in
          rw (e, event) (omega (
            arith,
            sum_more (counted s) (counted (after_put l s m)) (l.workers + 1) m (omega arith) (omega arith)
                (λ j ne. ap (λ rows. length rows + length (s.taken j)) (grown_other s.put m (owed_on l s m) j ne)),
          ))
      | takes in_line short event e ↦
          let b = source l m in
          let more = grown_length s.taken b (s.put b) (f.taken b) short in
          rw (e, event) (omega (
            arith,
            sum_more (counted s) (counted (after_take s b)) (l.workers + 1) b (omega (arith, source_in l m in_line)) (omega arith)
                (λ j ne. ap (λ rows. length (s.put j) + length rows) (grown_other s.taken b (s.put b) j ne)),
          ))
      | idles nay e ↦ rw (e, nay) (omega arith)
    ]

pub total_run : (l : Line) → IsLine l → (ms : List ℕ) (s : State) → Fits l s → total l.workers (after_turns l ms s) ≡ events l ms s + total l.workers s
total_run l is [] s f = omega arith
total_run l is (m ∷ ms) s f = omega (arith, total_run l is ms (turn l s m) (fits_turn l is s m f), total_turn l s m f)

taken_short : (l : Line) → IsLine l → (s : State) → Fits l s → (k : ℕ) → k ≤ l.workers → length (s.taken k) ≤ length l.rows
taken_short l is s f k h = omega (arith, put_short l is s f k h, prefix_length _ _ (f.taken k))

-- all rows, on every belt
abbrev pub most : Line → ℕ
most l = 2 * length l.rows * (l.workers + 1)

total_most : (l : Line) → IsLine l → (s : State) → Fits l s → most l ≤ total l.workers s → (k : ℕ) → k ≤ l.workers → (length (s.put k) ≡ length l.rows) × (length (s.taken k) ≡ length l.rows)
total_most l is s f e k h =
    let few : (j : ℕ) → j < l.workers + 1 → counted s j ≤ 2 * length l.rows = λ j l1. omega (arith, put_short l is s f j (omega arith), taken_short l is s f j (omega arith)) in
    let both : counted s k ≡ 2 * length l.rows = sum_most (counted s) (l.workers + 1) (2 * length l.rows) few (omega (arith, e, mul_comm (2 * length l.rows) (l.workers + 1))) k (omega arith) in
    (omega (arith, both, put_short l is s f k h, taken_short l is s f k h), omega (arith, both, put_short l is s f k h, taken_short l is s f k h))

pub done_from_most : (l : Line) → IsLine l → (s : State) → Fits l s → most l ≤ total l.workers s → is_done l s ≡ true
unfolding is_done
done_from_most l is s f e =
    and_from (eqb (length (s.put 0)) (length l.rows)) (eqb (length (s.taken l.workers)) (length l.rows))
    (eq-eqb (length (s.put 0)) (length l.rows) (total_most l is s f e 0 (omega arith)).0)
    (eq-eqb (length (s.taken l.workers)) (length l.rows) (total_most l is s f e l.workers (omega arith)).1)

-- if all rows were taken from belt k, all were put on it and on each before it
full_from : (l : Line) → IsLine l → (s : State) → Fits l s → (k : ℕ) → k ≤ l.workers → length (s.taken k) ≡ length l.rows → (j : ℕ) → j ≤ k → (length (s.put j) ≡ length l.rows) × (length (s.taken j) ≡ length l.rows)
full_from l is s f zero h e j low = let z : 0 ≡ j = omega arith in subst (λ i. (length (s.put i) ≡ length l.rows) × (length (s.taken i) ≡ length l.rows)) z ((let q = prefix_length _ _ (f.taken 0) in let r = put_short l is s f 0 h in omega arith), e)
full_from l is s f (suc k) h e j low =
    let put_full : length (s.put (suc k)) ≡ length l.rows = omega (arith, prefix_length _ _ (f.taken (suc k)), put_short l is s f (suc k) h) in
    elim (cases_lt k j) [
      | inl top ↦ (let z : suc k ≡ j = omega arith in subst (λ i. (length (s.put i) ≡ length l.rows) × (length (s.taken i) ≡ length l.rows)) z (put_full, e))
      | inr more ↦ (
          let below : k ≤ l.workers = omega arith in
          let owes = prefix_length _ _ (f.put (suc k) h) in
          full_from l is s f k below (elim (cases_lt (length (s.taken k)) (length l.rows)) [
            | inl few ↦ absurd (omega (arith, is.no_more (suc k) (s.taken k), few))
            | inr enough ↦ omega (arith, taken_short l is s f k below)
          ]) j more)
    ]

pub full : (l : Line) → IsLine l → (s : State) → Fits l s → is_done l s ≡ true → (j : ℕ) → j ≤ l.workers → (length (s.put j) ≡ length l.rows) × (length (s.taken j) ≡ length l.rows)
unfolding is_done
full l is s f done =
    full_from l is s f l.workers (omega arith)
    (eqb-true (length (s.taken l.workers)) (length l.rows) (and_parts (eqb (length (s.put 0)) (length l.rows)) (eqb (length (s.taken l.workers)) (length l.rows)) done).1)

pub most_from_done : (l : Line) → IsLine l → (s : State) → Fits l s → is_done l s ≡ true → total l.workers s ≡ most l
most_from_done l is s f done =
    sum_all (counted s) (l.workers + 1) (2 * length l.rows) (λ j h. let n = full l is s f done j (omega arith) in omega (arith, n.0, n.1))
    ∙ sym (mul_comm (2 * length l.rows) (l.workers + 1))

-- then each belt has carried all its rows
pub carried_all : (l : Line) → IsLine l → (s : State) → Fits l s → is_done l s ≡ true → (k : ℕ) → k ≤ l.workers → (s.put k ≡ rows_in_the_end l k) × (s.taken k ≡ rows_in_the_end l k)
carried_all l is s f done k h =
    let n = full l is s f done k h in
    let p = put_carried l is s f k h in
    (prefix_all _ _ p (n.0 ∙ sym (carried_length l is k)), prefix_all _ _ (trans_prefix _ _ _ (f.taken k) p) (n.1 ∙ sym (carried_length l is k)))
