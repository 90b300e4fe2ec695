-- A sum over a finite set does not change under a map of the set that undoes itself. Write each f (mate p), where the map sends
-- p to its mate, as the sum over q of the f q that the test `mate p is q` picks. That test is also `mate q is p`, so the two sums may change places, and the
-- inner one picks a single term again.
use Rattle.std.proofs.Common.{◌≡◌, ℕ, Bool, true, ap, ◌∙◌, sym}
use Rattle.std.proofs.lemmas.Bool.Decides.{same_from_decides}
use Rattle.gas_geom.proofs.Sums.{when}

-- how a sum over the members of a domain behaves
pub record IsSum {X : Type 0} (In : X → Type 0) (same : X → X → Bool) (total : (X → ℕ) → ℕ) : Type 0 where
  pub cong : (f g : X → ℕ) → ((p : X) → In p → f p ≡ g p) → total f ≡ total g
  pub swap : (f : X → X → ℕ) → total (λ p. total (λ q. f p q)) ≡ total (λ q. total (λ p. f p q))
  pub pick : (p : X) (f : X → ℕ) → In p → total (λ q. when (same p q) (f q)) ≡ f p
  pub same_is : (p q : X) → same p q ≡ true → p ≡ q
  pub same_self : (p : X) → same p p ≡ true

pub sum-involution : {X : Type 0} (In : X → Type 0) (same : X → X → Bool) (total : (X → ℕ) → ℕ) → IsSum In same total →
    (mate : X → X) → ((p : X) → In p → In (mate p)) → ((p : X) → In p → mate (mate p) ≡ p) →
    (f : X → ℕ) → total (λ p. f (mate p)) ≡ total f
sum-involution {X = X} In same total sums mate inside twice f =
    sums.cong _ (λ p. total (λ q. when (same (mate p) q) (f q))) (λ p h. sym (sums.pick (mate p) f (inside p h)))
    ∙ sums.swap (λ p q. when (same (mate p) q) (f q))
    ∙ sums.cong _ f (λ q hq.
    sums.cong _ (λ p. when (same (mate q) p) (f q)) (λ p hp. ap (λ b. when b (f q)) (same_mate p q hp hq))
    ∙ sums.pick (mate q) (λ _. f q) (inside q hq))
  where
    -- p is sent to q where q is sent to p
    forward : (p q : X) → In p → same (mate p) q ≡ true → same (mate q) p ≡ true
    forward p q hp e =
        let home : mate q ≡ p = ap mate (sym (sums.same_is (mate p) q e)) ∙ twice p hp in
        ap (λ v. same v p) home ∙ sums.same_self p

    same_mate : (p q : X) → In p → In q → same (mate p) q ≡ same (mate q) p
    same_mate p q hp hq = same_from_decides _ _ (forward p q hp, forward q p hq) ((λ e. e), (λ e. e))
