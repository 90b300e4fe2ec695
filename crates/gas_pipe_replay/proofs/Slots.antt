-- Lists in which two places were written, and a list in two parts.
use Rattle.std.proofs.Common.{◌≡◌, ℕ, ◌+◌, ◌-◌, ◌<◌, inl, inr, List, [], ◌∷◌, ◌++◌, length, get_or, set, ap, sym, ◌∙◌, subst, arith, length-append, length-set}
use Rattle.std.proofs.lemmas.Bool.{cases_eq, cases_lt}
use Rattle.std.proofs.lemmas.List.{set-append_left, set-append_right, get_or-set_same, get_or-set_other, get_or_read, get_or_append_left, get_or-append_right, get_or_push}

-- writes into the two parts are writes into the whole
pub two_writes : {A : Type 0} (xs before behind : List A) (i at : ℕ) (t p : A) → xs ≡ before ++ behind → length before ≡ at → i < at →
    set before i t ++ set behind 0 p ≡ set (set xs i t) at p
two_writes xs before behind i at t p e n low =
    let l : i < length before = omega arith in
    let a : set xs i t ≡ set before i t ++ behind = ap (λ v. set v i t) e ∙ set-append_left before behind i t l in
    let m : length (set before i t) ≡ at = length-set before i t ∙ n in
    let z : at - at ≡ 0 = omega arith in
    let b : set (set before i t ++ behind) at p ≡ set before i t ++ set behind (at - at) p =
    set-append_right (set before i t) behind at at p m (omega arith) in
    sym (ap (λ v. set v at p) a ∙ b ∙ ap (λ q. set before i t ++ set behind q p) z)

-- what was read from a part is what the whole has there
pub read_before : {A : Type 0} (xs before behind : List A) (i at : ℕ) (x d : A) → xs ≡ before ++ behind → length before ≡ at → i < at →
    x ≡ get_or before i x → x ≡ get_or xs i d
read_before xs before behind i at x d e n low is =
    let l : i < length before = omega arith in
    get_or_read before i x l is d ∙ sym (get_or_append_left before behind d i l) ∙ ap (λ v. get_or v i d) (sym e)

pub read_behind : {A : Type 0} (xs before behind : List A) (at : ℕ) (x d : A) → xs ≡ before ++ behind → length before ≡ at → at < length xs →
    x ≡ get_or behind 0 x → x ≡ get_or xs at d
read_behind xs before behind at x d e n high is =
    let l : 0 < length behind = omega (arith, length-append before behind, ap length e) in
    let z : at - at ≡ 0 = omega arith in
    get_or_read behind 0 x l is d ∙ ap (λ q. get_or behind q d) (sym z)
    ∙ sym (get_or-append_right before behind at at d n (omega arith)) ∙ ap (λ v. get_or v at d) (sym e)

-- what is true at each place after one write, or two
pub at_set : {A : Type 0} (xs : List A) (k j : ℕ) (v d : A) → k < length xs → (P : A → Type 0) → (j ≡ k → P v) →
    ((j ≡ k → ⊥) → P (get_or xs j d)) → P (get_or (set xs k v) j d)
at_set xs k j v d l P here other =
    elim (cases_eq j k) [
      | inl e ↦ subst P (sym (ap (λ q. get_or (set xs k v) q d) e ∙ get_or-set_same xs k v d l)) (here e)
      | inr ne ↦ subst P (sym (get_or-set_other xs k j v d ne)) (other ne)
    ]

pub at_two : {A : Type 0} (xs : List A) (i at j : ℕ) (t p d : A) → i < at → at < length xs → (P : A → Type 0) → (j ≡ at → P p) → (j ≡ i → P t) →
    ((j ≡ at → ⊥) → (j ≡ i → ⊥) → P (get_or xs j d)) → P (get_or (set (set xs i t) at p) j d)
at_two xs i at j t p d low high P here before other =
    at_set (set xs i t) at j p d (omega (arith, length-set xs i t)) P here
    (λ ne. at_set xs i j t d (omega arith) P before (λ no_i. other ne no_i))

-- what is true at each place after one more element
pub at_push : {A : Type 0} (xs : List A) (y d : A) (j k : ℕ) → length xs ≡ k → j < k + 1 → (P : A → Type 0) → (j ≡ k → P y) → (j < k → P (get_or xs j d)) →
    P (get_or (xs ++ y ∷ []) j d)
at_push xs y d j k n high P last before =
    elim (cases_lt j k) [
      | inl low ↦ subst P (sym (get_or_append_left xs (y ∷ []) d j (omega arith))) (before low)
      | inr top ↦ (let e : j ≡ k = omega arith in subst P (sym (get_or_push xs y d j (n ∙ sym e))) (last e))
    ]
