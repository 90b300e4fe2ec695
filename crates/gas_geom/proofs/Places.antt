-- Sums over the places of a lattice: a column, a row and a direction each. They behave as sums over a finite set do (`IsSum`),
-- since each of the three sums within does.
use Rattle.std.proofs.Common.{◌≡◌, ℕ, ◌<◌, Bool, true, ◌==◌, ◌&&◌, ◌∙◌, refl, eq-eqb}
use Rattle.std.proofs.lemmas.Bool.{eqb-true, and_parts}
use Rattle.gas_geom.proofs.Sums.{sum_below, when, sum_below-cong, sum_below-swap, sum_below-pick}
use Rattle.gas_geom.proofs.Involution.{IsSum}

abbrev pub Place : Type 0
Place = ℕ × ℕ × ℕ

module _ (w h d : ℕ) where
  abbrev pub Within : Place → Type 0
  Within p = (p.0 < w) × (p.1 < h) × (p.2 < d)

  abbrev pub total : (Place → ℕ) → ℕ
  total f = sum_below h (λ y. sum_below w (λ x. sum_below d (λ i. let p : Place = (x, y, i) in f p)))

  abbrev pub same : Place → Place → Bool
  same p q = (p.1 == q.1) && (p.0 == q.0) && (p.2 == q.2)

  pub total-cong : (f g : Place → ℕ) → ((p : Place) → Within p → f p ≡ g p) → total f ≡ total g
  total-cong f g e =
      sum_below-cong h _ _ (λ y hy. sum_below-cong w _ _ (λ x hx. sum_below-cong d _ _ (λ i hi. e (x, y, i) (hx, hy, hi))))

  total-sum_below : (n : ℕ) (f : Place → ℕ → ℕ) → total (λ p. sum_below n (λ j. f p j)) ≡ sum_below n (λ j. total (λ p. f p j))
  total-sum_below n f =
      sum_below-cong h _ _ (λ y _. sum_below-cong w _ _ (λ x _. sum_below-swap d n (λ i j. f (x, y, i) j))
      ∙ sum_below-swap w n (λ x j. sum_below d (λ i. f (x, y, i) j)))
      ∙ sum_below-swap h n (λ y j. sum_below w (λ x. sum_below d (λ i. f (x, y, i) j)))

  pub total-swap : (f : Place → Place → ℕ) → total (λ p. total (λ q. f p q)) ≡ total (λ q. total (λ p. f p q))
  total-swap f =
      total-sum_below h (λ p y. sum_below w (λ x. sum_below d (λ i. f p (x, y, i))))
      ∙ sum_below-cong h _ _ (λ y _. total-sum_below w (λ p x. sum_below d (λ i. f p (x, y, i)))
      ∙ sum_below-cong w _ _ (λ x _. total-sum_below d (λ p i. f p (x, y, i))))

  pub total-pick : (p : Place) (f : Place → ℕ) → Within p → total (λ q. when (same p q) (f q)) ≡ f p
  total-pick p f within =
      sum_below-cong h _ _ (λ y _. sum_below-cong w _ _ (λ x _. sum_below-pick ((p.1 == y) && (p.0 == x)) p.2 d (λ i. f (x, y, i)) within.2)
      ∙ sum_below-pick (p.1 == y) p.0 w (λ x. f (x, y, p.2)) within.0)
      ∙ sum_below-pick true p.1 h (λ y. f (p.0, y, p.2)) within.1

  same_is : (p q : Place) → same p q ≡ true → p ≡ q
  same_is p q e =
      let first = and_parts ((p.1 == q.1) && (p.0 == q.0)) (p.2 == q.2) e in
      let second = and_parts (p.1 == q.1) (p.0 == q.0) first.0 in
      let ey = eqb-true p.1 q.1 second.0 in
      let ex = eqb-true p.0 q.0 second.1 in
      let ei = eqb-true p.2 q.2 first.1 in
      λ t. (ex t, ey t, ei t)

  same_self : (p : Place) → same p p ≡ true
  same_self p = rw (eq-eqb p.1 p.1 refl, eq-eqb p.0 p.0 refl, eq-eqb p.2 p.2 refl) refl

  pub IsSum-total : IsSum Within same total
  IsSum-total = record { cong = total-cong; swap = total-swap; pick = total-pick; same_is = same_is; same_self = same_self }
