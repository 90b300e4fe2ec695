-- Lemmas about the first number that passes a test.
use Rattle.std.proofs.Common.{◌≡◌, ℕ, suc, ◌+◌, ◌-◌, ◌<◌, Bool, true, false, ◌&&◌, not, cond, Option, Some, None, is_none, ◌++◌, refl, ap, ◌∙◌, arith}
use Rattle.std.specs.Prelude.{is_some}
use Rattle.std.specs.List.{find, range_with_len}
use Rattle.std.specs.Option.{option_or}
use Rattle.std.proofs.lemmas.List.Folds.{find-append}
use Rattle.gas_bits.proofs.Ones.{range-append}

-- what passes below n + m, by what passes below n
find-split : (p : ℕ → Bool) (n m : ℕ) → find p (range_with_len 0 (n + m)) ≡ option_or (find p (range_with_len 0 n)) (find p (range_with_len n m))
find-split p n m =
    ap (find p) (range-append 0 n m ∙ ap (λ k. range_with_len 0 n ++ range_with_len k m) (let e : 0 + n ≡ n = omega arith in e))
    ∙ find-append p (range_with_len 0 n) (range_with_len n m)

both_none : (a b : Option ℕ) → (is_none a && is_none b) ≡ is_none (option_or a b)
both_none None b = refl
both_none (Some x) b = refl

alone : (n : ℕ) (passes : Bool) → not passes ≡ is_none (cond passes (Some n) None)
alone n true = refl
alone n false = refl

-- whether no number passes, by the numbers one after another
pub none-next : (p : ℕ → Bool) (n : ℕ) (so_far here : Bool) → so_far ≡ is_none (find p (range_with_len 0 n)) → here ≡ not (p n)
    → (so_far && here) ≡ is_none (find p (range_with_len 0 (n + 1)))
none-next p n so_far here e h =
    rw (e, h ∙ alone n (p n), find-split p n 1) (both_none (find p (range_with_len 0 n)) (find p (range_with_len n 1)))

-- what passes first, after numbers that do not pass
pub find-first : (p : ℕ → Bool) (k n : ℕ) → find p (range_with_len 0 k) ≡ None → p k ≡ true → k < n → find p (range_with_len 0 n) ≡ Some k
find-first p k n none here within =
    let more : n ≡ k + suc (n - suc k) = omega (arith, within) in
    rw more (find-split p k (suc (n - suc k)) ∙ rw (none, here) refl)

pub find-next : (p : ℕ → Bool) (n : ℕ) → find p (range_with_len 0 n) ≡ None → p n ≡ false → find p (range_with_len 0 (n + 1)) ≡ None
find-next p n none here = find-split p n 1 ∙ rw (none, here) refl

pub is_some-not : {A : Type 0} (o : Option A) → is_some o ≡ not (is_none o)
is_some-not None = refl
is_some-not (Some x) = refl

pub is_none-not : {A : Type 0} (o : Option A) (b : Bool) → is_some o ≡ b → is_none o ≡ not b
is_none-not None b e = ap not e
is_none-not (Some x) b e = ap not e
