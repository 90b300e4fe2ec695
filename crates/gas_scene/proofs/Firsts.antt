-- The first that passes a test.
use Rattle.std.proofs.Common.{◌≡◌, ℕ, ◌<◌, ◌≤◌, Bool, true, false, not, cond, List, length, get_or, nat_lt, Some, None, refl, ap, ◌∙◌, arith}
use Rattle.std.specs.List.{position, prefix_len}
use Rattle.std.proofs.lemmas.Bool.{not-true}
use Rattle.std.proofs.lemmas.Bool.Decides.{nat_tests}
use Rattle.std.proofs.lemmas.List.Sums.{prefix_len_passes, position_or_len_is}

-- the first that passes, after others that do not
pub position-at : {A : Type 0} (p : A → Bool) (xs : List A) (d : A) (n : ℕ) → n < length xs → ((k : ℕ) → k < n → p (get_or xs k d) ≡ false) → p (get_or xs n d) ≡ true → position p xs ≡ Some n
position-at p xs d n within before here =
    ap (λ m. cond (nat_lt m (length xs)) (Some m) None) (position_or_len_is p xs n d (omega (arith, within)) before (λ _. here))
    ∙ ap (λ (b : Bool). cond b (Some n) None) (let e : nat_lt n (length xs) ≡ true = grind (arith, nat_tests) in e)

-- if none passes, none is first
pub no_position : {A : Type 0} (p : A → Bool) (xs : List A) (d : A) → ((k : ℕ) → k < length xs → p (get_or xs k d) ≡ false) → position p xs ≡ None
no_position p xs d each =
    ap (λ n. cond (nat_lt n (length xs)) (Some n) None) (position_or_len_is p xs (length xs) d (omega arith) each (λ past. absurd (omega (arith, past))))
    ∙ ap (λ (b : Bool). cond b (Some (length xs)) None) (let e : nat_lt (length xs) (length xs) ≡ false = grind (arith, nat_tests) in e)

past_all : (n l : ℕ) (b : Bool) → nat_lt n l ≡ b → cond b (Some n) None ≡ None → l ≤ n
past_all n l true e none = absurd (cc)
past_all n l false e none = grind (arith, nat_tests, e)

-- if none is first, none passes
pub none_passes : {A : Type 0} (p : A → Bool) (xs : List A) → position p xs ≡ None → (k : ℕ) (d : A) → k < length xs → p (get_or xs k d) ≡ false
none_passes p xs none k d within =
    let all : length xs ≤ prefix_len (λ x. not (p x)) xs = past_all _ _ _ refl none in
    not-true _ (prefix_len_passes (λ x. not (p x)) xs k d (omega (arith, within, all)))
