-- What stages one behind another returned is the beginning of what they owe.
use Rattle.std.proofs.Common.{◌≡◌, ℕ, zero, suc, ◌+◌, ◌-◌, ◌<◌, ◌≤◌, ◌==◌, ◌++◌, Bool, true, false, if◌then◌else◌, nat_lt, Option, Some, None, List, [], ◌∷◌, length, map, replicate, drop, ap, ◌∙◌, sym, refl, append_assoc, append-nil, arith}
use Rattle.std.proofs.lemmas.Bool.{ne_eqb, le-ltb}
use Rattle.std.proofs.lemmas.List.{length-take, take-append-drop}
use Rattle.std.specs.List.{range_with_len}
use Rattle.gas_geom.specs.Gas.{Rules}
use Rattle.gas_geom.specs.Channel.{ChannelModel}
use Rattle.gas_geom.specs.Lattice.{next}
use Rattle.gas_rows.specs.Chirality.{chirality_bit}
use Rattle.gas_rows.specs.Row.{RowModel}
use Rattle.gas_rows.specs.declared.chirality.Chirality.{Chirality}
use Rattle.gas_stage.specs.Stage.{StageModel, owed, given}
use Rattle.gas_stage.specs.Stages.{owed_by, given_by, passes_from, MayEachHaveBeenFed}
use Rattle.gas_stage.proofs.Local.{length-next}
use Rattle.gas_stage.proofs.Owed.{owed-all, owed-no_more}
use Rattle.gas_stage.proofs.OwedBy.{owed_by-no_more, owed_by-grows}
use Rattle.gas_pipe_model.proofs.Prefixes.{prefix_length}
use mathlib.Core.List.{IsPrefix}

prefix_of_prefix : {A : Type 0} (xs ys zs : List A) → IsPrefix xs ys → IsPrefix ys zs → IsPrefix xs zs
prefix_of_prefix {A = A} xs ys zs first second =
    (first.0 ++ second.0, sym (append_assoc xs first.0 second.0) ∙ ap (λ (l : List A). l ++ second.0) first.1 ∙ second.1)

module _ (gas : Rules) (c : ChannelModel) (h : Chirality) where
  -- what a stage returned before the flush is the beginning of what it owes
  given_prefix : (e : Option ℕ) (q : List RowModel) → IsPrefix (given gas c h e q) (owed gas c h e q)
  given_prefix None q = ([], append-nil q)
  given_prefix (Some g) q = by (length q == c.height)
    where
      rows : List RowModel
      rows = next gas c (chirality_bit h c.width g) q

      by : (b : Bool) → IsPrefix (given gas c h (Some g) q) (if b then rows else given gas c h (Some g) q)
      by true = (drop (length q - 1) rows, take-append-drop (length q - 1) rows)
      by false = ([], append-nil (given gas c h (Some g) q))

  -- and all of it if rows are still to come
  given_short : (e : Option ℕ) (q : List RowModel) → length q < c.height → given gas c h e q ≡ owed gas c h e q
  given_short None q low = refl
  given_short (Some g) q low = sym (ap by (ne_eqb (length q) c.height (omega arith)))
    where
      by : Bool → List RowModel
      by b = if b then next gas c (chirality_bit h c.width g) q else given gas c h (Some g) q

  -- at most one row fewer than came
  given_long : (e : Option ℕ) (q : List RowModel) → length q ≤ c.height → length q ≤ length (given gas c h e q) + 1
  given_long None q few = omega arith
  given_long (Some g) q few =
      omega (arith, length-take (length q - 1) (next gas c (chirality_bit h c.width g) q), length-next gas c (chirality_bit h c.width g) q)

  given_few : (e : Option ℕ) (q : List RowModel) → length (given gas c h e q) ≤ length q
  given_few e q = omega (arith, prefix_length (given gas c h e q) (owed gas c h e q) (given_prefix e q), owed-no_more gas c h e q)

  -- what all returned is the beginning of what they owe
  pub given_by_prefix : (flushed : ℕ) (es : List (Option ℕ)) (q : List RowModel) → length q ≤ c.height →
      IsPrefix (given_by gas c h flushed es q) (owed_by gas c h es q)
  given_by_prefix flushed [] q few = ([], append-nil q)
  given_by_prefix zero (e ∷ es) q few =
      let first = given_prefix e q in
      let long : length (given gas c h e q ++ first.0) ≤ c.height =
      omega (arith, ap (λ (l : List RowModel). length l) first.1, owed-no_more gas c h e q) in
      let grown = owed_by-grows gas c h es (given gas c h e q) first.0 long in
      prefix_of_prefix (given_by gas c h zero es (given gas c h e q)) (owed_by gas c h es (given gas c h e q)) (owed_by gas c h es (owed gas c h e q))
      (given_by_prefix zero es (given gas c h e q) (omega (arith, given_few e q)))
      (grown.0, grown.1 ∙ ap (owed_by gas c h es) first.1)
  given_by_prefix (suc n) (e ∷ es) q few = given_by_prefix n es (owed gas c h e q) (omega (arith, owed-no_more gas c h e q))

  given_by_short : (es : List (Option ℕ)) (q : List RowModel) → length q < c.height → given_by gas c h zero es q ≡ owed_by gas c h es q
  given_by_short [] q low = refl
  given_by_short (e ∷ es) q low =
      ap (given_by gas c h zero es) (given_short e q low) ∙ given_by_short es (owed gas c h e q) (omega (arith, owed-no_more gas c h e q))

  -- at most one row fewer for each stage than came
  pub fed_long : (flushed : ℕ) (stages : List StageModel) (es : List (Option ℕ)) (q : List RowModel) → MayEachHaveBeenFed gas c h flushed stages es q → length q ≤ c.height →
      length q ≤ length (given_by gas c h flushed es q) + length stages
  fed_long n [] [] q fits few = omega arith
  fed_long n [] (e ∷ es) q fits few = absurd fits
  fed_long zero (s ∷ stages) [] q fits few = absurd fits
  fed_long (suc n) (s ∷ stages) [] q fits few = absurd fits
  fed_long zero (s ∷ stages) (e ∷ es) q fits few =
      omega (arith, given_long e q few, fed_long zero stages es (given gas c h e q) fits.3 (omega (arith, given_few e q)))
  fed_long (suc n) (s ∷ stages) (e ∷ es) q fits few =
      let all : length (owed gas c h e q) ≡ c.height = owed-all gas c h e q fits.3 in
      omega (arith, all, fits.3, fed_long n stages es (owed gas c h e q) fits.4 (omega (arith, all)))

  -- of no rows none are returned
  pub given_by_none : (flushed : ℕ) (es : List (Option ℕ)) → given_by gas c h flushed es [] ≡ []
  given_by_none flushed es = none (given_by gas c h flushed es [])
      (omega (arith, prefix_length (given_by gas c h flushed es []) (owed_by gas c h es []) (given_by_prefix flushed es [] (omega arith)), owed_by-no_more gas c h es []))
    where
      none : (q : List RowModel) → length q ≤ 0 → q ≡ []
      none [] few = refl
      none (r ∷ rs) few = absurd (omega arith)

  -- so many of these stages were flushed
  module _ (flushed : ℕ) where
    pub fed_short : (stages : List StageModel) (es : List (Option ℕ)) (q : List RowModel) → MayEachHaveBeenFed gas c h flushed stages es q → length q < c.height →
        given_by gas c h flushed es q ≡ owed_by gas c h es q
    fed_short stages es q fits low = by flushed stages es fits
      where
        by : (n : ℕ) (stages : List StageModel) (es : List (Option ℕ)) → MayEachHaveBeenFed gas c h n stages es q → given_by gas c h n es q ≡ owed_by gas c h es q
        by n [] [] fits = refl
        by n [] (e ∷ es) fits = absurd fits
        by zero (s ∷ stages) [] fits = absurd fits
        by (suc n) (s ∷ stages) [] fits = absurd fits
        by zero (s ∷ stages) (e ∷ es) fits = given_by_short (e ∷ es) q low
        by (suc n) (s ∷ stages) (e ∷ es) fits = absurd (omega (arith, fits.3))

  pub fed_unflushed : (flushed : ℕ) (stages : List StageModel) (es : List (Option ℕ)) (q : List RowModel) → MayEachHaveBeenFed gas c h flushed stages es q →
      length q < c.height → given_by gas c h flushed es q ≡ given_by gas c h zero es q
  fed_unflushed flushed stages es q fits low = fed_short flushed stages es q fits low ∙ sym (given_by_short es q low)

  pub fed_all : (flushed : ℕ) (stages : List StageModel) (es : List (Option ℕ)) (q : List RowModel) → MayEachHaveBeenFed gas c h flushed stages es q →
      flushed ≡ length stages → given_by gas c h flushed es q ≡ owed_by gas c h es q
  fed_all n [] [] q fits all = refl
  fed_all n [] (e ∷ es) q fits all = absurd fits
  fed_all zero (s ∷ stages) [] q fits all = absurd fits
  fed_all (suc n) (s ∷ stages) [] q fits all = absurd fits
  fed_all zero (s ∷ stages) (e ∷ es) q fits all = absurd (omega arith)
  fed_all (suc n) (s ∷ stages) (e ∷ es) q fits all = fed_all n stages es (owed gas c h e q) fits.4 (omega arith)

-- The first stage computes from generation g, or none does. The others hand rows on.
abbrev does : ℕ → ℕ → ℕ → Option ℕ
does first computing k = if nat_lt k computing then Some (first + k) else None

handed_on : (first computing k : ℕ) → computing ≤ k → does first computing k ≡ None
handed_on first computing k low = ap (λ (b : Bool). if b then Some (first + k) else None) (le-ltb k computing low)

others : (first computing from n : ℕ) → computing ≤ from → map (does first computing) (range_with_len from n) ≡ replicate n None
others first computing from zero low = refl
others first computing from (suc n) low =
    ap (λ (e : Option ℕ). e ∷ map (does first computing) (range_with_len (from + 1) n)) (handed_on first computing from low)
    ∙ ap (λ (l : List (Option ℕ)). None ∷ l) (others first computing (from + 1) n (omega arith))

pub one_computes : (g n : ℕ) → 0 < n → passes_from g 1 n ≡ Some g ∷ replicate (n - 1) None
one_computes g zero some = absurd (omega arith)
one_computes g (suc n) some =
    let first : g + 0 ≡ g = omega arith in
    let less : n ≡ suc n - 1 = omega arith in
    ap (λ (k : ℕ). Some k ∷ map (does g 1) (range_with_len (0 + 1) n)) first
    ∙ ap (λ (l : List (Option ℕ)). Some g ∷ l) (others g 1 (0 + 1) n (omega arith))
    ∙ ap (λ (k : ℕ). Some g ∷ replicate k None) less

pub none_computes : (n : ℕ) → 0 < n → passes_from 0 0 n ≡ None ∷ replicate (n - 1) None
none_computes zero some = absurd (omega arith)
none_computes (suc n) some =
    let less : n ≡ suc n - 1 = omega arith in
    others 0 0 0 (suc n) (omega arith) ∙ ap (λ (k : ℕ). None ∷ replicate k None) less
