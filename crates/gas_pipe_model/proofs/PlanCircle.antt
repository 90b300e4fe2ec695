-- The workers of a plan are a circle, and its belts carry the rows of one pass after another.
use Rattle.std.proofs.Common.{◌≡◌, ℕ, zero, suc, ◌+◌, ◌*◌, List, [], ◌∷◌, ◌++◌, take, drop, refl, sym, ap, ◌∙◌, arith, append-nil}
use Rattle.std.specs.Prelude.{flat_map}
use Rattle.std.specs.List.{range_with_len}
use Rattle.std.proofs.lemmas.List.Concat.{flat_map-append}
use Rattle.gas_geom.specs.Gas.{Rules}
use Rattle.gas_rows.specs.Row.{RowModel}
use Rattle.gas_stage.proofs.OwedBy.{owed_by-all}
use Rattle.gas_pipe_model.specs.Pass.{RunInputModel, IsRunInput, generations_of, rows_on, carried_on}
use Rattle.gas_pipe_model.specs.Inner.Circle.{joined, IsCircle, owes_in}
use Rattle.gas_pipe_model.proofs.Generations.{rows_high, owes_next, begins_next}
use Rattle.gas_pipe_model.proofs.Circle.{goes_round}

range_more : (a n : ℕ) → range_with_len a (suc n) ≡ range_with_len a n ++ (a + n) ∷ []
range_more a zero = let e : a ≡ a + 0 = omega arith in ap (λ (k : ℕ). k ∷ []) e
range_more a (suc n) = ap (λ (l : List ℕ). a ∷ l) (range_more (a + 1) n ∙ ap (λ (k : ℕ). range_with_len (a + 1) n ++ k ∷ []) (let e : a + 1 + n ≡ a + suc n = omega arith in e))

-- the rows of some passes, as the definition says them
pub joined_is : (rows : ℕ → List RowModel) (n : ℕ) → joined rows n ≡ flat_map rows (range_with_len 0 n)
unfolding joined
joined_is rows zero = refl
joined_is rows (suc n) =
    ap (λ (l : List RowModel). l ++ rows n) (joined_is rows n)
    ∙ ap (λ (l : List RowModel). flat_map rows (range_with_len 0 n) ++ l) (sym (append-nil (rows n)))
    ∙ ap (λ (k : ℕ). flat_map rows (range_with_len 0 n) ++ flat_map rows (k ∷ [])) (let e : n ≡ 0 + n = omega arith in e)
    ∙ sym (flat_map-append rows (range_with_len 0 n) ((0 + n) ∷ []))
    ∙ ap (flat_map rows) (sym (range_more 0 n))

module _ (gas : Rules) (input : RunInputModel) (is : IsRunInput gas input) where
  pub is_circle : (back : List RowModel → List RowModel) → ((m : ℕ) (q : List RowModel) → take m (back q) ≡ back (take m q)) →
      ((n : ℕ) → back (joined (λ i. rows_on gas input i input.plan.threads) n) ≡ joined (λ i. rows_on gas input i input.plan.threads) n) →
      IsCircle input.lattice.channel.height input.plan.threads (owes_in gas input) back (rows_on gas input)
  is_circle back front kept = record {
    whole = λ k n q h. owed_by-all gas input.lattice.channel input.chirality (generations_of input.first input.plan n (suc k)) q h;
    high = rows_high gas input is;
    on = λ n k. owes_next gas input is n k;
    again = λ n. sym (begins_next gas input is.workers n ∙ ap (λ (m : ℕ). rows_on gas input m 0) (let e : n + 1 ≡ suc n = omega arith in e));
    front = front;
    kept = kept;
  }

  pub round : (n : ℕ) → take (n * input.lattice.channel.height) (carried_on gas input (n + 1) input.plan.threads) ≡ drop input.lattice.channel.height (carried_on gas input (n + 1) 0)
  round n =
      let e : n + 1 ≡ suc n = omega arith in
      ap (λ (m : ℕ). take (n * input.lattice.channel.height) (carried_on gas input m input.plan.threads)) e
      ∙ ap (take (n * input.lattice.channel.height)) (sym (joined_is (λ i. rows_on gas input i input.plan.threads) (suc n)))
      ∙ goes_round input.lattice.channel.height input.plan.threads (owes_in gas input) (λ q. q) (rows_on gas input) (is_circle (λ q. q) (λ m q. refl) (λ m. refl)) n
      ∙ ap (drop input.lattice.channel.height) (joined_is (λ i. rows_on gas input i 0) (suc n))
      ∙ ap (λ (m : ℕ). drop input.lattice.channel.height (carried_on gas input m 0)) (sym e)
