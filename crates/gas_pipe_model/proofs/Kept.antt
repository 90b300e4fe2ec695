-- Every turn keeps `Fits`, so every run does.
use Rattle.std.proofs.Common.{◌≡◌, ℕ, zero, suc, ◌+◌, ◌≤◌, ◌<◌, List, [], ◌∷◌, inl, inr, length, refl, ap, sym, subst, arith}
use Rattle.std.proofs.lemmas.Bool.{cases_eq}
use Rattle.gas_rows.specs.Row.{RowModel}
use mathlib.Core.List.{IsPrefix}
use Rattle.gas_pipe_model.specs.Line.{Line, State, start, owed_on, grown, source, turn, after_turns}
use Rattle.gas_pipe_model.specs.Inner.Line.{after_put, after_take, IsLine}
use Rattle.gas_pipe_model.proofs.Prefixes.{next, same_prefix, trans_prefix, prefix_length, next_prefix, next_length}
use Rattle.gas_pipe_model.proofs.Turns.{puts, takes, idles, turn_cases, grown_same, grown_other, Fits, owe_prefix, put_short, fits_start}

owed_put : (l : Line) (s : State) (m k : ℕ) → owed_on l (after_put l s m) k ≡ owed_on l s k
owed_put l s m zero = refl
owed_put l s m (suc k) = refl

pub grown_prefix : (f : ℕ → List RowModel) (k : ℕ) (rows : List RowModel) (j : ℕ) → IsPrefix (f j) (grown f k rows j)
grown_prefix f k rows j =
    elim (cases_eq j k) [
      | inl e ↦ subst (λ i. IsPrefix (f i) (grown f k rows i)) (sym e) (rw grown_same (next (f k) rows, refl))
      | inr ne ↦ rw (grown_other f k rows j ne) (same_prefix (f j))
    ]

-- if the row comes from a list that the history begins, it still begins it
pub grown_within : (f : ℕ → List RowModel) (k : ℕ) (rows : List RowModel) (j : ℕ) (ys : List RowModel) → (j ≡ k → ys ≡ rows) → IsPrefix (f j) ys → length (f k) < length rows → IsPrefix (grown f k rows j) ys
grown_within f k rows j ys at p h =
    elim (cases_eq j k) [
      | inl e ↦ (
          let q : IsPrefix (f k) rows = subst (λ i. IsPrefix (f i) rows) e (rw (at e) at p) in
          rw (at e) (subst (λ i. IsPrefix (grown f k rows i) rows) (sym e) (rw grown_same (next_prefix _ _ q h))))
      | inr ne ↦ rw (grown_other f k rows j ne) p
    ]

pub grown_length : (f : ℕ → List RowModel) (k : ℕ) (rows : List RowModel) → IsPrefix (f k) rows → length (f k) < length rows → length (grown f k rows k) ≡ suc (length (f k))
grown_length f k rows p h = rw grown_same (next_length _ _ p h)

fits_put : (l : Line) (s : State) (m : ℕ) → Fits l s → m ≤ l.workers → length (s.put m) < length (owed_on l s m) → length (s.put m) < length (s.taken m) + l.capacity → Fits l (after_put l s m)
fits_put l s m f in_line short room = record {
  taken = λ k. trans_prefix _ _ _ (f.taken k) (grown_prefix s.put m (owed_on l s m) k);
  put = λ k h. rw (owed_put l s m k) (grown_within s.put m (owed_on l s m) k (owed_on l s k) (λ e. ap (owed_on l s) e) (f.put k h) short);
  under_way = λ k. elim (cases_eq k m) [
    | inl e ↦ subst (λ i. length (grown s.put m (owed_on l s m) i) ≤ length (s.taken i) + l.capacity) (sym e) (omega (arith, grown_length s.put m (owed_on l s m) (f.put m in_line) short))
    | inr ne ↦ rw (grown_other s.put m (owed_on l s m) k ne) (f.under_way k)
  ];
}

owed_take : (l : Line) → IsLine l → (s : State) (b : ℕ) → Fits l s → length (s.taken b) < length (s.put b) → (k : ℕ) → k ≤ l.workers → IsPrefix (owed_on l s k) (owed_on l (after_take s b) k)
owed_take l is s b f short zero h = same_prefix l.rows
owed_take l is s b f short (suc k) h =
    let within = grown_within s.taken b (s.put b) k (s.put k) (λ e. ap s.put e) (f.taken k) short in
    owe_prefix l is (suc k) (s.taken k) (grown s.taken b (s.put b) k) (grown_prefix s.taken b (s.put b) k)
    (omega (arith, prefix_length _ _ within, put_short l is s f k (omega arith)))

fits_take : (l : Line) → IsLine l → (s : State) (b : ℕ) → Fits l s → length (s.taken b) < length (s.put b) → Fits l (after_take s b)
fits_take l is s b f short = record {
  taken = λ k. grown_within s.taken b (s.put b) k (s.put k) (λ e. ap s.put e) (f.taken k) short;
  put = λ k h. trans_prefix _ _ _ (f.put k h) (owed_take l is s b f short k h);
  under_way = λ k. omega (arith, f.under_way k, prefix_length _ _ (grown_prefix s.taken b (s.put b) k));
}

pub fits_turn : (l : Line) → IsLine l → (s : State) (m : ℕ) → Fits l s → Fits l (turn l s m)
fits_turn l is s m f =
    elim (turn_cases l s m) [
      | puts in_line short room _ e ↦ rw e (fits_put l s m f in_line short room)
      | takes in_line short _ e ↦ rw e (fits_take l is s (source l m) f short)
      | idles _ e ↦ rw e f
    ]

pub fits_run : (l : Line) → IsLine l → (ms : List ℕ) (s : State) → Fits l s → Fits l (after_turns l ms s)
fits_run l is [] s f = f
fits_run l is (m ∷ ms) s f = fits_run l is ms (turn l s m) (fits_turn l is s m f)

pub fits : (l : Line) → IsLine l → (ms : List ℕ) → Fits l (after_turns l ms start)
fits l is ms = fits_run l is ms start (fits_start l)
