-- What a stage owes grows at its end as rows come: never more rows than came, and all rows once all have come.
use Rattle.std.proofs.Common.{◌≡◌, ℕ, zero, suc, ◌+◌, ◌-◌, ◌≤◌, Bool, true, false, if◌then◌else◌, ◌==◌, Option, Some, None, List, [], ◌∷◌, ◌++◌, take, drop, length, ap, ◌∙◌, sym, refl, arith, append-nil, ⊎_elim, eq-eqb}
use Rattle.std.proofs.lemmas.Bool.{cases_eq, ne_eqb}
use Rattle.std.proofs.lemmas.List.{length-append, length-take, take-take, take-append-drop}
use Rattle.gas_geom.specs.Gas.{Rules}
use Rattle.gas_geom.specs.Channel.{ChannelModel}
use Rattle.gas_geom.specs.Lattice.{next}
use Rattle.gas_rows.specs.Chirality.{chirality_bit}
use Rattle.gas_rows.specs.declared.chirality.Chirality.{Chirality}
use Rattle.gas_stage.specs.Stage.{owed}
use Rattle.gas_stage.proofs.Local.{take-next-append, length-next}

module _ (gas : Rules) (c : ChannelModel) (chirality : Chirality) where
  abbrev rows : ℕ → List (List ℕ) → List (List ℕ)
  rows g q = next gas c (chirality_bit chirality c.width g) q

  abbrev by_length : ℕ → List (List ℕ) → Bool → List (List ℕ)
  by_length g q whole = if whole then rows g q else take (length q - 1) (rows g q)

  pub owed-whole : (g : ℕ) (q : List (List ℕ)) → length q ≡ c.height → owed gas c chirality (Some g) q ≡ rows g q
  owed-whole g q e = ap (by_length g q) (eq-eqb (length q) c.height e)

  -- the rows whose neighbours have come are among those owed
  take-owed : (g n : ℕ) (q : List (List ℕ)) → n ≤ length q - 1 → take n (owed gas c chirality (Some g) q) ≡ take n (rows g q)
  take-owed g n q h = by (length q == c.height)
    where
      by : (b : Bool) → take n (by_length g q b) ≡ take n (rows g q)
      by true = refl
      by false = take-take n (length q - 1) (rows g q) h

  -- all are owed when all have come
  pub owed-all : (p : Option ℕ) (q : List (List ℕ)) → length q ≡ c.height → length (owed gas c chirality p q) ≡ c.height
  owed-all None q e = e
  owed-all (Some g) q e =
      ap (λ (l : List (List ℕ)). length l) (owed-whole g q e) ∙ length-next gas c (chirality_bit chirality c.width g) q

  -- never more than came
  pub owed-no_more : (p : Option ℕ) (q : List (List ℕ)) → length (owed gas c chirality p q) ≤ length q
  owed-no_more None q = omega arith
  owed-no_more (Some g) q =
      ⊎_elim
      (λ e. omega (arith, owed-all (Some g) q e, e))
      (λ ne.
      omega (arith, ap (λ (l : List (List ℕ)). length l) (ap (by_length g q) (ne_eqb (length q) c.height ne)), length-take (length q - 1) (rows g q)))
      (cases_eq (length q) c.height)

  -- what is owed stays owed, and more comes behind it
  pub owed-grows : (p : Option ℕ) (q more : List (List ℕ)) → length (q ++ more) ≤ c.height →
      (rest : List (List ℕ)) × (owed gas c chirality p q ++ rest ≡ owed gas c chirality p (q ++ more))
  owed-grows None q more h = (more, refl)
  owed-grows (Some g) q [] h = ([], append-nil (owed gas c chirality (Some g) q) ∙ ap (owed gas c chirality (Some g)) (sym (append-nil q)))
  owed-grows (Some g) q (r ∷ rs) h = (drop n later, ap (λ (l : List (List ℕ)). l ++ drop n later) here ∙ take-append-drop n later)
    where
      n : ℕ
      n = length q - 1

      later : List (List ℕ)
      later = owed gas c chirality (Some g) (q ++ r ∷ rs)

      longer : length (q ++ r ∷ rs) ≡ length q + suc (length rs)
      longer = length-append q (r ∷ rs)

      same : (k : ℕ) → length q ≡ k → take n (rows g q) ≡ take n (rows g (q ++ r ∷ rs))
      same zero e = let none : n ≡ 0 = omega (arith, e) in ap (λ m. take m (rows g q)) none ∙ sym (ap (λ m. take m (rows g (q ++ r ∷ rs))) none)
      same (suc k) e = sym (take-next-append gas c (chirality_bit chirality c.width g) q (r ∷ rs) n (omega (arith, e)) (omega (arith, longer, h)))

      here : owed gas c chirality (Some g) q ≡ take n later
      here =
          ap (by_length g q) (ne_eqb (length q) c.height (omega (arith, longer, h)))
          ∙ same (length q) refl
          ∙ sym (take-owed g n (q ++ r ∷ rs) (omega (arith, longer)))
