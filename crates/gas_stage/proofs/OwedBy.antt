-- What stages one behind another owe: it grows at its end as rows come, and for all rows of a lattice it is the rows of a later one.
use Rattle.std.proofs.Common.{◌≡◌, ℕ, zero, suc, ◌+◌, ◌<◌, ◌≤◌, min, nat_lt, if◌then◌else◌, Option, Some, None, List, [], ◌∷◌, ◌++◌, length, map, ap, ◌∙◌, refl, arith, ⊎_elim}
use Rattle.std.specs.List.{range_with_len}
use Rattle.std.proofs.Math.Nat.{min-eq_left, min-eq_right}
use Rattle.std.proofs.lemmas.Bool.{cases_lt, lt-ltb, le-ltb}
use Rattle.gas_geom.specs.Gas.{Rules}
use Rattle.gas_geom.specs.Channel.{ChannelModel}
use Rattle.gas_geom.specs.Lattice.{generation}
use Rattle.gas_rows.specs.Chirality.{chirality_bit}
use Rattle.gas_rows.specs.declared.chirality.Chirality.{Chirality}
use Rattle.gas_stage.specs.Stage.{owed}
use Rattle.gas_stage.specs.Stages.{owed_by}
use Rattle.gas_stage.proofs.Local.{length-next}
use Rattle.gas_stage.proofs.Owed.{owed-all, owed-no_more, owed-grows, owed-whole}

module _ (gas : Rules) (c : ChannelModel) (h : Chirality) where
  pub owed_by-all : (es : List (Option ℕ)) (q : List (List ℕ)) → length q ≡ c.height → length (owed_by gas c h es q) ≡ c.height
  owed_by-all [] q high = high
  owed_by-all (e ∷ es) q high = owed_by-all es (owed gas c h e q) (owed-all gas c h e q high)

  pub owed_by-no_more : (es : List (Option ℕ)) (q : List (List ℕ)) → length (owed_by gas c h es q) ≤ length q
  owed_by-no_more [] q = omega arith
  owed_by-no_more (e ∷ es) q = omega (arith, owed_by-no_more es (owed gas c h e q), owed-no_more gas c h e q)

  pub owed_by-grows : (es : List (Option ℕ)) (q more : List (List ℕ)) → length (q ++ more) ≤ c.height →
      (rest : List (List ℕ)) × (owed_by gas c h es q ++ rest ≡ owed_by gas c h es (q ++ more))
  owed_by-grows [] q more few = (more, refl)
  owed_by-grows (e ∷ es) q more few =
      let one = owed-grows gas c h e q more few in
      let all = owed_by-grows es (owed gas c h e q) one.0 (omega (arith, ap (λ (l : List (List ℕ)). length l) one.1, owed-no_more gas c h e (q ++ more))) in
      (all.0, all.1 ∙ ap (owed_by gas c h es) one.1)

  -- the rows n generations after the rows `rows` of a lattice, and what a stage does if it is behind so many of those that may compute
  module _ (first computing : ℕ) (rows : List (List ℕ)) (high : length rows ≡ c.height) where
    abbrev at : ℕ → List (List ℕ)
    at n = generation gas c (chirality_bit h c.width) first rows n

    abbrev does : ℕ → Option ℕ
    does k = if nat_lt k computing then Some (first + k) else None

    at-high : (n : ℕ) → length (at n) ≡ c.height
    at-high zero = high
    at-high (suc n) = length-next gas c (chirality_bit h c.width (first + n)) (at n)

    owed-next : (k : ℕ) → owed gas c h (does k) (at (min k computing)) ≡ at (min (suc k) computing)
    owed-next k =
        ⊎_elim
        (λ (on : k < computing).
        rw (lt-ltb k computing on, min-eq_left (let le : k ≤ computing = omega (arith, on) in le), min-eq_left (let le : suc k ≤ computing = omega (arith, on) in le))
        (owed-whole gas c h (first + k) (at k) (at-high k)))
        (λ (past : computing ≤ k).
        rw (le-ltb k computing past, min-eq_right past, min-eq_right (let le : computing ≤ suc k = omega (arith, past) in le)) refl)
        (cases_lt k computing)

    pub owed_by-generations : (f : ℕ → Option ℕ) (a k n : ℕ) → ((i : ℕ) → f (a + i) ≡ does (k + i)) →
        owed_by gas c h (map f (range_with_len a n)) (at (min k computing)) ≡ at (min (k + n) computing)
    owed_by-generations f a k zero same = ap (λ i. at (min i computing)) (let e : k ≡ k + 0 = omega arith in e)
    owed_by-generations f a k (suc n) same =
        let here : f a ≡ does k = ap f (let e : a ≡ a + 0 = omega arith in e) ∙ same 0 ∙ ap does (let e : k + 0 ≡ k = omega arith in e) in
        ap (λ o. owed_by gas c h (map f (range_with_len (a + 1) n)) (owed gas c h o (at (min k computing)))) here
        ∙ ap (owed_by gas c h (map f (range_with_len (a + 1) n))) (owed-next k)
        ∙ owed_by-generations f (a + 1) (suc k) n (λ i. ap f (let e : a + 1 + i ≡ a + suc i = omega arith in e) ∙ same (suc i)
        ∙ ap does (let e : k + suc i ≡ suc k + i = omega arith in e))
        ∙ ap (λ i. at (min i computing)) (let e : suc k + n ≡ k + suc n = omega arith in e)
