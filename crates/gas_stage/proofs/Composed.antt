-- Stages one behind another, as a list: a step of the one at place k, and what it means for those from k on.
use Rattle.std.proofs.Common.{◌≡◌, ℕ, zero, suc, ◌+◌, ◌-◌, ◌<◌, ◌≤◌, Option, Some, None, IsSome, is_some, false, option_map, List, [], ◌∷◌, ◌++◌, length, map, take, drop, get_or, set, ap, ◌∙◌, sym, refl, subst, arith, add-one, append-nil}
use Rattle.std.specs.Option.{option_to_list}
use Rattle.std.specs.List.{range_with_len}
use Rattle.std.proofs.Math.Seq.{drop-cons}
use Rattle.std.proofs.lemmas.Bool.{false≢true}
use Rattle.std.proofs.lemmas.List.{length_push, length-take, drop-set-lt, drop_all}
use Rattle.gas_geom.specs.Gas.{Rules}
use Rattle.gas_geom.specs.Channel.{ChannelModel}
use Rattle.gas_geom.specs.Lattice.{next}
use Rattle.gas_rows.specs.Chirality.{chirality_bit}
use Rattle.gas_rows.specs.declared.chirality.Chirality.{Chirality}
use Rattle.gas_stage.specs.Stage.{StageModel, MayHaveBeenFed, given, owed}
use Rattle.gas_stage.specs.Stages.{MayEachHaveBeenFed, given_by, owed_by}
use Rattle.gas_stage.specs.Inner.Passes.{kept, first_does, Returned}
use Rattle.gas_stage.specs.Inner.Stages.{AreClosed, IsUnderWay}
use Rattle.gas_stage.proofs.Owed.{owed-all}

-- a list whose first k + 1 items are those of another in which item k was written
written_suc : {A : Type 0} (xs new : List A) (k : ℕ) (x : A) → k < length xs → take (suc k) new ≡ take (suc k) (set xs k x) →
    (take k new ≡ take k xs) × (drop k new ≡ x ∷ drop (suc k) new)
written_suc [] new k x low e = absurd (omega arith)
written_suc (y ∷ ys) [] zero x low e = cc
written_suc {A = A} (y ∷ ys) (n ∷ ns) zero x low e = (refl, ap (λ (l : List A). get_or l 0 x ∷ ns) e)
written_suc (y ∷ ys) [] (suc k) x low e = cc
written_suc {A = A} (y ∷ ys) (n ∷ ns) (suc k) x low e =
    let both = written_suc ys ns k x (omega arith) (ap (λ (l : List A). drop 1 l) e) in
    let head : n ≡ y = ap (λ (l : List A). get_or l 0 y) e in
    ((λ t. head t ∷ both.0 t), both.1)

pub written : {A : Type 0} (xs new : List A) (k : ℕ) (x : A) → k < length xs → take (k + 1) new ≡ take (k + 1) (set xs k x) →
    (take k new ≡ take k xs) × (drop k new ≡ x ∷ drop (k + 1) new)
written xs new k x low e = rw add-one (written_suc xs new k x low (rw add-one at e))

-- the items from k on begin with the one there
from_here : {A : Type 0} (xs : List A) (k : ℕ) (d : A) → k < length xs → drop k xs ≡ get_or xs k d ∷ drop (k + 1) xs
from_here xs k d low = rw add-one (drop-cons xs k d low)

-- a stage that returned a row had given fewer
some_more : (gas : Rules) (c : ChannelModel) (h : Chirality) (does : Option ℕ) (before after : List (List ℕ)) (o : Option (List ℕ)) → IsSome o →
    Returned gas c h does before after o → length after ≡ length before + 1
some_more gas c h does before after None some back = absurd (false≢true some)
some_more gas c h does before after (Some r) some back = by back.row back.more back.is
  where
    by : (row : Option (List ℕ)) → after ≡ before ++ option_to_list row → Some r ≡ option_map (kept gas c h does (length before)) row →
        length after ≡ length before + 1
    by None more is = absurd (let no_row = is in cc)
    by (Some row) more is = ap (λ (l : List (List ℕ)). length l) more ∙ length_push before row

module _ (gas : Rules) (c : ChannelModel) (h : Chirality) where
  abbrev Each : ℕ → List StageModel → List (Option ℕ) → List (List ℕ) → Type 0
  Each = MayEachHaveBeenFed gas c h

  given-none : (e : Option ℕ) → given gas c h e [] ≡ []
  given-none None = refl
  given-none (Some g) = refl

  given-no_more : (e : Option ℕ) (q : List (List ℕ)) → length (given gas c h e q) ≤ length q
  given-no_more None q = omega arith
  given-no_more (Some g) q = omega (arith, length-take (length q - 1) (next gas c (chirality_bit h c.width g) q))

  -- while rows are to come, no stage was flushed
  pub none_flushed : (flushed n : ℕ) (stages : List StageModel) → IsUnderWay gas c h flushed n stages → flushed < length stages → n < c.height → flushed ≡ 0
  none_flushed flushed n stages way open_pass more = by flushed stages way.es way.q way.fed_is way.fits open_pass
    where
      by : (flushed : ℕ) (stages : List StageModel) (es : List (Option ℕ)) (q : List (List ℕ)) → n ≡ length q → Each flushed stages es q →
          flushed < length stages → flushed ≡ 0
      by zero stages es q e fits low = refl
      by (suc flushed) [] es q e fits low = absurd (omega arith)
      by (suc flushed) (s ∷ stages) [] q e fits low = absurd fits
      by (suc flushed) (s ∷ stages) (p ∷ es) q e fits low = absurd (omega (arith, fits.3))

  -- stages that were all flushed are closed, and have given all that they owe
  flushed_closed : (stages : List StageModel) (es : List (Option ℕ)) (q : List (List ℕ)) → Each (length stages) stages es q → AreClosed c h stages
  flushed_closed [] es q fits = tt
  flushed_closed (s ∷ stages) [] q fits = absurd fits
  flushed_closed (s ∷ stages) (p ∷ es) q fits = (fits.0, fits.1, fits.2, flushed_closed stages es (owed gas c h p q) fits.4)

  given_by-all : (stages : List StageModel) (es : List (Option ℕ)) (q : List (List ℕ)) → Each (length stages) stages es q →
      given_by gas c h (length stages) es q ≡ owed_by gas c h es q
  given_by-all [] [] q fits = refl
  given_by-all [] (p ∷ es) q fits = absurd fits
  given_by-all (s ∷ stages) [] q fits = absurd fits
  given_by-all (s ∷ stages) (p ∷ es) q fits = given_by-all stages es (owed gas c h p q) fits.4

  pub closes : (flushed n : ℕ) (stages : List StageModel) → IsUnderWay gas c h flushed n stages → flushed ≡ length stages → AreClosed c h stages
  closes flushed n stages way e = flushed_closed stages way.es way.q (subst (λ m. Each m stages way.es way.q) e way.fits)

  pub gives_all : (flushed : ℕ) (stages : List StageModel) (es : List (Option ℕ)) (q : List (List ℕ)) → Each flushed stages es q →
      flushed ≡ length stages → owed_by gas c h es q ≡ given_by gas c h flushed es q
  gives_all flushed stages es q fits e =
      sym (ap (λ n. given_by gas c h n es q) e ∙ given_by-all stages es q (subst (λ n. Each n stages es q) e fits))

  pub closed-push : (stages : List StageModel) (s : StageModel) → AreClosed c h stages → s.channel ≡ c → s.chirality ≡ h → s.pass ≡ None →
      AreClosed c h (stages ++ s ∷ [])
  closed-push [] s closed channel chirality none = (channel, chirality, none, tt)
  closed-push (x ∷ stages) s closed channel chirality none =
      (closed.0, closed.1, closed.2, closed-push stages s closed.3 channel chirality none)

  -- nothing goes into stages that are fed nothing
  pub none_behind : (stages : List StageModel) (o : Option (List ℕ)) → is_some o ≡ false →
      (es : List (Option ℕ)) (q : List (List ℕ)) (r : Option (List ℕ)) → Each 0 stages es q → o ≡ option_map (kept gas c h (first_does es) (length q)) r →
      Each 0 stages es (q ++ option_to_list r) × (given_by gas c h 0 es (q ++ option_to_list r) ≡ given_by gas c h 0 es q ++ option_to_list o)
  none_behind stages None none es q None fed e =
      (subst (Each 0 stages es) (sym (append-nil q)) fed, ap (given_by gas c h 0 es) (append-nil q) ∙ sym (append-nil (given_by gas c h 0 es q)))
  none_behind stages None none es q (Some r) fed e = cc
  none_behind stages (Some x) none es q r fed e = absurd (false≢true (sym none))

  -- one that is returned goes into those behind
  pub one_behind : (stages new : List StageModel) (o result : Option (List ℕ)) → IsSome o →
      ((es : List (Option ℕ)) (q : List (List ℕ)) (r : List ℕ) → Each 0 stages es q → o ≡ Some (kept gas c h (first_does es) (length q) r) →
      Each 0 new es (q ++ r ∷ []) × (given_by gas c h 0 es (q ++ r ∷ []) ≡ given_by gas c h 0 es q ++ option_to_list result)) →
      (es : List (Option ℕ)) (q : List (List ℕ)) (r : Option (List ℕ)) → Each 0 stages es q → o ≡ option_map (kept gas c h (first_does es) (length q)) r →
      Each 0 new es (q ++ option_to_list r) × (given_by gas c h 0 es (q ++ option_to_list r) ≡ given_by gas c h 0 es q ++ option_to_list result)
  one_behind stages new o result some later es q None fed e = absurd (false≢true (subst IsSome e some))
  one_behind stages new o result some later es q (Some r) fed e = later es q r fed e

  -- what the first of stages does
  pub first_is : (stages : List StageModel) (k : ℕ) (d : StageModel) (es : List (Option ℕ)) (q : List (List ℕ)) → k < length stages → Each 0 (drop k stages) es q →
      (get_or stages k d).pass ≡ Some (first_does es)
  first_is stages k d es q low fed = by es (subst (λ (l : List StageModel). Each 0 l es q) (from_here stages k d low) fed)
    where
      by : (es : List (Option ℕ)) → Each 0 (get_or stages k d ∷ drop (k + 1) stages) es q → (get_or stages k d).pass ≡ Some (first_does es)
      by [] fed = absurd fed
      by (p ∷ es) fed = fed.2.pass

  pub none_is_first : (stages : List StageModel) (k : ℕ) (es : List (Option ℕ)) (q : List (List ℕ)) → length stages ≤ k → Each 0 (drop k stages) es q →
      first_does es ≡ None
  none_is_first stages k es q past fed = by es (subst (λ (l : List StageModel). Each 0 l es q) (drop_all k stages past) fed)
    where
      by : (es : List (Option ℕ)) → Each 0 [] es q → first_does es ≡ None
      by [] fed = refl
      by (p ∷ es) fed = absurd fed

  -- The stages from k on, when all rows were fed and those before were flushed: what a flush of stage k means for all of them.
  record IsBehind (k : ℕ) (stages : List StageModel) (es : List (Option ℕ)) (q : List (List ℕ)) : Type 0 where
    behind_es : List (Option ℕ)
    behind_q : List (List ℕ)
    fits : Each 0 (drop k stages) behind_es behind_q
    all : length behind_q ≡ c.height
    after : (new : List StageModel) → take k new ≡ take k stages → Each 1 (drop k new) behind_es behind_q → Each (suc k) new es q
    gives : (out : List (List ℕ)) → given_by gas c h 1 behind_es behind_q ≡ given_by gas c h 0 behind_es behind_q ++ out →
        given_by gas c h (suc k) es q ≡ given_by gas c h k es q ++ out

  -- and so with one more before them
  flushed_before : (k : ℕ) (stages : List StageModel) (s : StageModel) (p : Option ℕ) (es : List (Option ℕ)) (q : List (List ℕ)) →
      Each (suc k) (s ∷ stages) (p ∷ es) q → IsBehind k stages es (owed gas c h p q) → IsBehind (suc k) (s ∷ stages) (p ∷ es) q
  flushed_before k stages s p es q fits rest =
      record { behind_es = rest.behind_es; behind_q = rest.behind_q; fits = rest.fits; all = rest.all; after = after; gives = rest.gives }
    where
      after : (new : List StageModel) → take (suc k) new ≡ s ∷ take k stages → Each 1 (drop (suc k) new) rest.behind_es rest.behind_q →
          Each (suc (suc k)) new (p ∷ es) q
      after [] same each = cc
      after (n ∷ new) same each =
          let e : n ≡ s = ap (λ (l : List StageModel). get_or l 0 s) same in (
            ap (λ (v : StageModel). v.channel) e ∙ fits.0,
            ap (λ (v : StageModel). v.chirality) e ∙ fits.1,
            ap (λ (v : StageModel). v.pass) e ∙ fits.2,
            fits.3,
            rest.after new (ap (λ (l : List StageModel). drop 1 l) same) each,
          )

  behind_flushed : (k : ℕ) (stages : List StageModel) (es : List (Option ℕ)) (q : List (List ℕ)) →
      Each k stages es q → length q ≡ c.height → k < length stages → IsBehind k stages es q
  behind_flushed zero stages es q fits all low =
      record { behind_es = es; behind_q = q; fits = fits; all = all; after = λ new same each. each; gives = λ out e. e }
  behind_flushed (suc k) [] es q fits all low = absurd (omega arith)
  behind_flushed (suc k) (s ∷ stages) [] q fits all low = absurd fits
  behind_flushed (suc k) (s ∷ stages) (p ∷ es) q fits all low =
      flushed_before k stages s p es q fits (behind_flushed k stages es (owed gas c h p q) fits.4 (owed-all gas c h p q all) (omega arith))

  -- the stages from k on are all open
  pub from_flushed : (k : ℕ) (stages : List StageModel) → IsUnderWay gas c h k c.height stages → k < length stages →
      IsUnderWay gas c h 0 c.height (drop k stages)
  from_flushed k stages way low =
      let b = behind_flushed k stages way.es way.q way.fits (sym way.fed_is) low in
      record { es = b.behind_es; q = b.behind_q; fed_is = sym b.all; fits = b.fits }

  module _ (stages : List StageModel) (k : ℕ) (d : StageModel) (low : k < length stages) where
    abbrev s : StageModel
    s = get_or stages k d

    here : drop k stages ≡ s ∷ drop (k + 1) stages
    here = from_here stages k d low

    -- what is known of a stage among those that are fed
    pub can_feed : (n : ℕ) → IsUnderWay gas c h 0 n (drop k stages) → (s.channel ≡ c) × IsSome s.pass × (s.fed ≡ n)
    can_feed n way = by way.es way.q way.fed_is (subst (λ (l : List StageModel). Each 0 l way.es way.q) here way.fits)
      where
        by : (es : List (Option ℕ)) (q : List (List ℕ)) → n ≡ length q → Each 0 (s ∷ drop (k + 1) stages) es q → (s.channel ≡ c) × IsSome s.pass × (s.fed ≡ n)
        by [] q e fits = absurd fits
        by (p ∷ es) q e fits = (fits.0, subst IsSome (sym fits.2.pass) refl, fits.2.fed ∙ sym e)

    module _ (s' : StageModel) where
      behind : drop (k + 1) (set stages k s') ≡ drop (k + 1) stages
      behind = drop-set-lt (k + 1) stages k s' (omega arith)

      pub closed_behind : AreClosed c h (drop k stages) → AreClosed c h (drop (k + 1) (set stages k s'))
      closed_behind closed = subst (AreClosed c h) (sym behind) (subst (AreClosed c h) here closed).3

      -- the stages behind it can be fed what it returns
      pub can_go_on : (n : ℕ) → IsUnderWay gas c h 0 n (drop k stages) →
          (m : ℕ) × (IsUnderWay gas c h 0 m (drop (k + 1) (set stages k s')) × (m ≤ n))
      can_go_on n way = by way.es way.q way.fed_is (subst (λ (l : List StageModel). Each 0 l way.es way.q) here way.fits)
        where
          by : (es : List (Option ℕ)) (q : List (List ℕ)) → n ≡ length q → Each 0 (s ∷ drop (k + 1) stages) es q →
              (m : ℕ) × (IsUnderWay gas c h 0 m (drop (k + 1) (set stages k s')) × (m ≤ n))
          by [] q e fed = absurd fed
          by (p ∷ es) q e fed = (
            length (given gas c h p q),
            (
              record {
                es = es;
                q = given gas c h p q;
                fed_is = refl;
                fits = subst (λ (l : List StageModel). Each 0 l es (given gas c h p q)) (sym behind) fed.3;
              },
              omega (arith, given-no_more p q),
            ),
          )

      -- the stages behind it can be fed what its flush returned
      pub can_be_fed : (does : Option ℕ) (o : Option (List ℕ)) → IsSome o →
          ((p : Option ℕ) (q : List (List ℕ)) → MayHaveBeenFed gas s p q →
          Returned gas s.channel s.chirality does (given gas s.channel s.chirality p q) (owed gas s.channel s.chirality p q) o) →
          IsUnderWay gas c h 0 c.height (drop k stages) → (m : ℕ) × (IsUnderWay gas c h 0 m (drop (k + 1) (set stages k s')) × (m < c.height))
      can_be_fed does o some gives way = by way.es way.q (sym way.fed_is) (subst (λ (l : List StageModel). Each 0 l way.es way.q) here way.fits)
        where
          by : (es : List (Option ℕ)) (q : List (List ℕ)) → length q ≡ c.height → Each 0 (s ∷ drop (k + 1) stages) es q →
              (m : ℕ) × (IsUnderWay gas c h 0 m (drop (k + 1) (set stages k s')) × (m < c.height))
          by [] q high fed = absurd fed
          by (p ∷ es) q high fed =
              let back : Returned gas c h does (given gas c h p q) (owed gas c h p q) o = rw (fed.0, fed.1) at (gives p q fed.2) in (
                length (given gas c h p q),
                (
                  record {
                    es = es;
                    q = given gas c h p q;
                    fed_is = refl;
                    fits = subst (λ (l : List StageModel). Each 0 l es (given gas c h p q)) (sym behind) fed.3;
                  },
                  omega (arith, some_more gas c h does _ _ o some back, owed-all gas c h p q high),
                ),
              )

      module _ (new : List StageModel) (same : take (k + 1) new ≡ take (k + 1) (set stages k s')) where
        here' : drop k new ≡ s' ∷ drop (k + 1) new
        here' = (written stages new k s' low same).1

        -- it begins, and those behind it
        pub begins : (f : ℕ → Option ℕ) → AreClosed c h (drop k stages) → s' ≡ record s { pass = Some (f k) } → MayHaveBeenFed gas s' (f k) [] →
            Each 0 (drop (k + 1) new) (map f (range_with_len (k + 1) (length (drop (k + 1) (set stages k s'))))) [] →
            Each 0 (drop k new) (map f (range_with_len k (length (drop k stages)))) []
        begins f closed opened fits rest =
            let was = subst (AreClosed c h) here closed in
            subst (λ (l : List StageModel). Each 0 l (map f (range_with_len k (length (drop k stages)))) []) (sym here')
            (subst (λ (l : List StageModel). Each 0 (s' ∷ drop (k + 1) new) (map f (range_with_len k (length l))) []) (sym here) (
              ap (λ (v : StageModel). v.channel) opened ∙ was.0,
              ap (λ (v : StageModel). v.chirality) opened ∙ was.1,
              fits,
              subst (Each 0 (drop (k + 1) new) (map f (range_with_len (k + 1) (length (drop (k + 1) stages))))) (sym (given-none (f k)))
                  (subst (λ (l : List StageModel). Each 0 (drop (k + 1) new) (map f (range_with_len (k + 1) (length l))) []) behind rest),
            ))

        module _ (o result : Option (List ℕ)) (does : Option ℕ) (channel : s'.channel ≡ s.channel) (chirality : s'.chirality ≡ s.chirality)
            (first : (es : List (Option ℕ)) (q : List (List ℕ)) → Each 0 (drop (k + 1) stages) es q → does ≡ first_does es)
            (later : (es : List (Option ℕ)) (q : List (List ℕ)) (r : Option (List ℕ)) → Each 0 (drop (k + 1) (set stages k s')) es q →
            o ≡ option_map (kept gas c h (first_does es) (length q)) r →
            Each 0 (drop (k + 1) new) es (q ++ option_to_list r)
            × (given_by gas c h 0 es (q ++ option_to_list r) ≡ given_by gas c h 0 es q ++ option_to_list result)) where
          -- what it returned goes into those behind it
          goes_on : (es : List (Option ℕ)) (before after : List (List ℕ)) → Returned gas c h does before after o → Each 0 (drop (k + 1) stages) es before →
              Each 0 (drop (k + 1) new) es after × (given_by gas c h 0 es after ≡ given_by gas c h 0 es before ++ option_to_list result)
          goes_on es before after back fed =
              subst (λ (l : List (List ℕ)). Each 0 (drop (k + 1) new) es l × (given_by gas c h 0 es l ≡ given_by gas c h 0 es before ++ option_to_list result))
              (sym back.more)
              (later es before back.row (subst (λ (l : List StageModel). Each 0 l es before) (sym behind) fed)
              (back.is ∙ ap (λ p. option_map (kept gas c h p (length before)) back.row) (first es before fed)))

          -- a row goes into it
          pub passes : (row : Option (List ℕ)) →
              ((p : Option ℕ) (q : List (List ℕ)) (r : List ℕ) → MayHaveBeenFed gas s p q → row ≡ Some (kept gas s.channel s.chirality p (length q) r) →
              MayHaveBeenFed gas s' p (q ++ r ∷ [])) →
              ((p : Option ℕ) (q : List (List ℕ)) (r : List ℕ) → MayHaveBeenFed gas s p q → row ≡ Some (kept gas s.channel s.chirality p (length q) r) →
              Returned gas s.channel s.chirality does (given gas s.channel s.chirality p q) (given gas s.channel s.chirality p (q ++ r ∷ [])) o) →
              (es : List (Option ℕ)) (q : List (List ℕ)) (r : List ℕ) → Each 0 (drop k stages) es q → row ≡ Some (kept gas c h (first_does es) (length q) r) →
              Each 0 (drop k new) es (q ++ r ∷ []) × (given_by gas c h 0 es (q ++ r ∷ []) ≡ given_by gas c h 0 es q ++ option_to_list result)
          passes row fits gives es q r was = by es (subst (λ (l : List StageModel). Each 0 l es q) here was)
            where
              by : (es : List (Option ℕ)) → Each 0 (s ∷ drop (k + 1) stages) es q → row ≡ Some (kept gas c h (first_does es) (length q) r) →
                  Each 0 (drop k new) es (q ++ r ∷ []) × (given_by gas c h 0 es (q ++ r ∷ []) ≡ given_by gas c h 0 es q ++ option_to_list result)
              by [] fed enters = absurd fed
              by (p ∷ es) fed enters =
                  let enters_here : row ≡ Some (kept gas s.channel s.chirality p (length q) r) = rw (fed.0, fed.1) enters in
                  let back : Returned gas c h does (given gas c h p q) (given gas c h p (q ++ r ∷ [])) o = rw (fed.0, fed.1) at (gives p q r fed.2 enters_here) in
                  let both = goes_on es (given gas c h p q) (given gas c h p (q ++ r ∷ [])) back fed.3 in (
                    subst (λ (l : List StageModel). Each 0 l (p ∷ es) (q ++ r ∷ [])) (sym here')
                        (channel ∙ fed.0, chirality ∙ fed.1, fits p q r fed.2 enters_here, both.0),
                    both.1,
                  )

          -- it is flushed
          pub flushes : s'.pass ≡ None →
              ((p : Option ℕ) (q : List (List ℕ)) → MayHaveBeenFed gas s p q →
              Returned gas s.channel s.chirality does (given gas s.channel s.chirality p q) (owed gas s.channel s.chirality p q) o) →
              (es : List (Option ℕ)) (q : List (List ℕ)) → Each k stages es q → length q ≡ c.height →
              Each (k + 1) new es q × (given_by gas c h (k + 1) es q ≡ given_by gas c h k es q ++ option_to_list result)
          flushes closed gives es q was all =
              let b = behind_flushed k stages es q was all low in
              let both = by b.behind_es b.behind_q b.all (subst (λ (l : List StageModel). Each 0 l b.behind_es b.behind_q) here b.fits) in
              rw add-one (b.after new (written stages new k s' low same).0 both.0, b.gives (option_to_list result) both.1)
            where
              by : (es : List (Option ℕ)) (q : List (List ℕ)) → length q ≡ c.height → Each 0 (s ∷ drop (k + 1) stages) es q →
                  Each 1 (drop k new) es q × (given_by gas c h 1 es q ≡ given_by gas c h 0 es q ++ option_to_list result)
              by [] q high fed = absurd fed
              by (p ∷ es) q high fed =
                  let back : Returned gas c h does (given gas c h p q) (owed gas c h p q) o = rw (fed.0, fed.1) at (gives p q fed.2) in
                  let both = goes_on es (given gas c h p q) (owed gas c h p q) back fed.3 in (
                    subst (λ (l : List StageModel). Each 1 l (p ∷ es) q) (sym here') (channel ∙ fed.0, chirality ∙ fed.1, closed, high, both.0),
                    both.1,
                  )

-- the same under equal names
pub renamed : (gas : Rules) (c c' : ChannelModel) (h h' : Chirality) (flushed n n' : ℕ) (stages : List StageModel) → c' ≡ c → h' ≡ h → n' ≡ n →
    IsUnderWay gas c h flushed n stages → IsUnderWay gas c' h' flushed n' stages
renamed gas c c' h h' flushed n n' stages channel chirality fed way = rw (channel, chirality, fed) way
