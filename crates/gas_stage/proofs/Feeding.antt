-- What one more row, and the flush, bring to a stage that computes. The rows that it holds are the last two of those fed,
-- collided; with the next row they are the rows about the last but one, so streaming gives that row of the next lattice.
use Rattle.std.proofs.Common.{◌≡◌, ℕ, zero, suc, ◌+◌, ◌-◌, ◌<◌, ◌≤◌, Bool, false, if◌then◌else◌, Option, Some, None, IsSome, is_some, option_map, List, [], ◌∷◌, ◌++◌, take, length, get_or, ap, ◌∙◌, sym, refl, subst, arith, eq-eqb}
use Rattle.std.specs.Option.{option_to_list}
use Rattle.std.proofs.lemmas.Bool.{false≢true}
use Rattle.std.proofs.lemmas.List.{length_push, length-take}
use Rattle.std.proofs.lemmas.List.FromFn.{get_or-map-range_with_len}
use Rattle.gas_geom.specs.Gas.{Rules}
use Rattle.gas_geom.specs.Channel.{ChannelModel, is_solid}
use Rattle.gas_geom.specs.Lattice.{row_of, streamed, next}
use Rattle.gas_rows.specs.Chirality.{chirality_bit}
use Rattle.gas_rows.specs.declared.chirality.Chirality.{Chirality}
use Rattle.gas_rows.specs.Streaming.{IsRowAt, AreRowsAbout, advanced}
use Rattle.gas_stage.specs.declared.stage.Mode.{Mode}
use Rattle.gas_stage.specs.declared.stage.Mode.TheVariants.{Closed, HandsOn, Computes}
use Rattle.gas_stage.specs.Inner.Passes.{AreBitsOf, open_pass, kept, Returned}
use Rattle.gas_stage.specs.Stage.{StageModel, MayHaveBeenFed, given, owed}
use Rattle.gas_rows.proofs.Rows.{row_of-same}
use Rattle.gas_stage.proofs.Local.{collided_at, cell-push_at, collided_of, collided_of-append, next_row, take-next-push, next-all, length-next}

module _ (gas : Rules) (c : ChannelModel) (chi : ℕ → ℕ → Bool) (q : List (List ℕ)) where
  -- the row that was fed, collided
  collided_at-next : (row : List ℕ) → row_of c.width (λ x. if is_solid c x (length q) then 0 else gas.collide (get_or row x 0) (chi x (length q)))
      ≡ collided_at gas c chi (q ++ row ∷ []) (length q)
  collided_at-next row =
      row_of-same 0 c.width _ (λ x. collided_of gas c chi (q ++ row ∷ []) x (length q))
      (λ x _. ap (λ s. if is_solid c x (length q) then 0 else gas.collide s (chi x (length q))) (sym (cell-push_at q row x (length q) refl)))

  -- a row that was fed before stays as it was
  collided_at-push : (row : List ℕ) (y : ℕ) → y < length q → collided_at gas c chi q y ≡ collided_at gas c chi (q ++ row ∷ []) y
  collided_at-push row y h =
      row_of-same 0 c.width (λ x. collided_of gas c chi q x y) (λ x. collided_of gas c chi (q ++ row ∷ []) x y)
      (λ x _. sym (collided_of-append gas c chi q (row ∷ []) x y h))

-- a cell of a collided row
get_or-collided_at : (gas : Rules) (c : ChannelModel) (chi : ℕ → ℕ → Bool) (q : List (List ℕ)) (kept : List ℕ) (x y : ℕ) →
    x < c.width → kept ≡ collided_at gas c chi q y → get_or kept x 0 ≡ collided_of gas c chi q x y
get_or-collided_at gas c chi q kept x y h e =
    ap (λ (r : List ℕ). get_or r x 0) e
    ∙ get_or-map-range_with_len (λ x'. collided_of gas c chi q x' y) 0 c.width x x 0 h (omega arith)

module _ (gas : Rules) (s : StageModel) (g : ℕ) (q : List (List ℕ)) (fits : MayHaveBeenFed gas s (Some g) q) where
  abbrev c : ChannelModel
  c = s.channel

  abbrev chi : ℕ → ℕ → Bool
  chi = chirality_bit s.chirality s.channel.width g

  -- the rows that the stage holds are the last two of q, and so of a longer list
  module _ (p : List (List ℕ)) (same : (x y : ℕ) → y < length q → collided_of gas c chi q x y ≡ collided_of gas c chi p x y) where
    held_before_last : (v : ℕ) → v + 2 ≡ length q → IsRowAt c (collided_of gas c chi p) v s.before_last
    held_before_last v e x h fluid =
        get_or-collided_at gas c chi q s.before_last x v h
        (fits.held.before_last (omega arith) ∙ ap (collided_at gas c chi q) (let e' : length q - 2 ≡ v = omega arith in e'))
        ∙ same x v (omega arith)

    held_last : (v : ℕ) → v + 1 ≡ length q → IsRowAt c (collided_of gas c chi p) v s.last
    held_last v e x h fluid =
        get_or-collided_at gas c chi q s.last x v h
        (fits.held.last (omega arith) ∙ ap (collided_at gas c chi q) (let e' : length q - 1 ≡ v = omega arith in e'))
        ∙ same x v (omega arith)

  module _ (row fed_row : List ℕ) (collides : fed_row ≡ collided_at gas c chi (q ++ row ∷ []) (length q)) where
    abbrev p : List (List ℕ)
    p = q ++ row ∷ []

    same_before : (x y : ℕ) → y < length q → collided_of gas c chi q x y ≡ collided_of gas c chi p x y
    same_before x y h = sym (collided_of-append gas c chi q (row ∷ []) x y h)

    -- one row more
    pub fits-push : (before_last : List ℕ) → (1 ≤ length q → before_last ≡ s.last) →
        MayHaveBeenFed gas (record s { fed = s.fed + 1; before_last = before_last; last = fed_row }) (Some g) p
    fits-push before_last moved = record {
      pass = fits.pass;
      fed = omega (arith, fits.fed, length_push q row);
      held = record {
        before_last = λ two.
            let one : 1 ≤ length q = omega (arith, length_push q row) in
            let e : length q - 1 ≡ length p - 2 = omega (arith, length_push q row) in
            moved one ∙ fits.held.last one ∙ collided_at-push gas c chi q row (length q - 1) (omega arith)
            ∙ ap (collided_at gas c chi p) e;
        last = λ one.
            let e : length q ≡ length p - 1 = omega (arith, length_push q row) in
            collides ∙ ap (collided_at gas c chi p) e;
      };
    }

    -- each further row gives the one before it
    pub gives-next : 0 < s.fed → s.fed < c.height →
        given gas c s.chirality (Some g) p ≡ given gas c s.chirality (Some g) q ++ next_row gas c chi p (s.fed - 1) ∷ []
    gives-next some room =
        ap (λ n. take n (next gas c chi p)) (let e : length p - 1 ≡ m + 1 = omega (arith, length_push q row, fits.fed) in e)
        ∙ take-next-push gas c chi q row m (omega (arith, fits.fed)) (omega (arith, fits.fed))
        ∙ ap (λ n. take n (next gas c chi q) ++ next_row gas c chi p m ∷ []) (let e : m ≡ length q - 1 = omega (arith, fits.fed) in e)
      where
        m : ℕ
        m = s.fed - 1

    -- from the rows about it
    pub about-next : 0 < s.fed → AreRowsAbout c (collided_of gas c chi p) (s.fed - 1) s.before_last s.last fed_row
    about-next some = record {
      up_is = λ above. held_before_last p same_before (s.fed - 1 - 1) (omega (arith, fits.fed));
      mid_is = held_last p same_before (s.fed - 1) (omega (arith, fits.fed));
      down_is = λ below x h fluid.
          get_or-collided_at gas c chi p fed_row x (s.fed - 1 + 1) h
          (collides ∙ ap (collided_at gas c chi p) (let e : length q ≡ s.fed - 1 + 1 = omega (arith, fits.fed) in e));
    }

  -- the flush gives the bottom row
  pub gives-bottom : 0 < s.fed → s.fed ≡ c.height →
      owed gas c s.chirality (Some g) q ≡ given gas c s.chirality (Some g) q ++ next_row gas c chi q (s.fed - 1) ∷ []
  gives-bottom some whole =
      ap (λ (b : Bool). if b then rows else take (length q - 1) rows) (eq-eqb (length q) c.height (omega (arith, fits.fed)))
      ∙ next-all gas c chi q m (omega (arith, whole))
      ∙ ap (λ n. take n rows ++ next_row gas c chi q m ∷ []) (let e : m ≡ length q - 1 = omega (arith, fits.fed) in e)
    where
      rows : List (List ℕ)
      rows = next gas c chi q

      m : ℕ
      m = s.fed - 1

  pub about-bottom : (below : List ℕ) → 0 < s.fed → s.fed ≡ c.height →
      AreRowsAbout c (collided_of gas c chi q) (s.fed - 1) s.before_last s.last below
  about-bottom below some whole = record {
    up_is = λ above. held_before_last q (λ x y _. refl) (s.fed - 1 - 1) (omega (arith, fits.fed));
    mid_is = held_last q (λ x y _. refl) (s.fed - 1) (omega (arith, fits.fed));
    down_is = λ under. absurd (omega (arith, whole));
  }

  -- the rows given before are all but the last of those fed
  given-fewer : 0 < s.fed → s.fed ≤ c.height → length (given gas c s.chirality (Some g) q) ≡ s.fed - 1
  given-fewer some within = omega (arith, fits.fed, length-take (length q - 1) (next gas c chi q), length-next gas c chi q)

-- with the random bits of a step a row is as a stage keeps it that computes this step
bits-kept : (gas : Rules) (c : ChannelModel) (h : Chirality) (g width y : ℕ) (bits : List Bool) (row : List ℕ) → AreBitsOf gas h width g y bits → width ≡ c.width →
    row_of c.width (λ x. if is_solid c x y then 0 else gas.collide (get_or row x 0) (get_or bits x false)) ≡ kept gas c h (Some g) y row
bits-kept gas c h g width y bits row are wide =
    row_of-same 0 c.width _ _ (λ x lt.
    ap (λ set. if is_solid c x y then 0 else set)
    (are (get_or row x 0) x (omega (arith, lt, wide)) ∙ ap (λ w. gas.collide (get_or row x 0) (chirality_bit h w g x y)) wide))

-- a row that is collided after streaming if a stage behind computes, is as that stage keeps it
pub advanced-kept : (gas : Rules) (c : ChannelModel) (h : Chirality) (behind : Option ℕ) (collides : Bool) (width y : ℕ) (bits : List Bool) (at : ℕ → ℕ → ℕ) →
    collides ≡ is_some behind → ((g : ℕ) → behind ≡ Some g → AreBitsOf gas h width g y bits) → width ≡ c.width →
    row_of c.width (λ x. advanced gas c collides (λ u v. get_or bits u false) at x y) ≡ kept gas c h behind y (row_of c.width (λ x. streamed gas c at x y))
advanced-kept gas c h None collides width y bits at e are wide =
    ap (λ (b : Bool). row_of c.width (λ x. advanced gas c b (λ u v. get_or bits u false) at x y)) e
advanced-kept gas c h (Some g) collides width y bits at e are wide =
    ap (λ (b : Bool). row_of c.width (λ x. advanced gas c b (λ u v. get_or bits u false) at x y)) e
    ∙ row_of-same 0 c.width _ (λ x. if is_solid c x y then 0 else gas.collide (get_or (row_of c.width (λ u. streamed gas c at u y)) x 0) (get_or bits x false))
    (λ x lt. ap (λ (s : ℕ). if is_solid c x y then 0 else gas.collide s (get_or bits x false))
    (sym (get_or-map-range_with_len (λ u. streamed gas c at u y) 0 c.width x x 0 lt (omega arith))))
    ∙ bits-kept gas c h g width y bits (row_of c.width (λ u. streamed gas c at u y)) (are g refl) wide

pub collided-kept : (gas : Rules) (c : ChannelModel) (h : Chirality) (g width y : ℕ) (solid bits : List Bool) (row : List ℕ) →
    AreBitsOf gas h width g y bits → width ≡ c.width → length row ≡ c.width → solid ≡ get_or c.solid y [] →
    row_of (length row) (λ x. if get_or solid x false then 0 else gas.collide (get_or row x 0) (get_or bits x false)) ≡ kept gas c h (Some g) y row
collided-kept gas c h g width y solid bits row are wide long solid_is =
    ap (λ n. row_of n (λ x. if get_or solid x false then 0 else gas.collide (get_or row x 0) (get_or bits x false))) long
    ∙ row_of-same 0 c.width _ _ (λ x _. ap (λ (l : List Bool). if get_or l x false then 0 else gas.collide (get_or row x 0) (get_or bits x false)) solid_is)
    ∙ bits-kept gas c h g width y bits row are wide

-- what came out is a row of the next lattice, as the stage behind keeps it
came_out : (gas : Rules) (c : ChannelModel) (h : Chirality) (behind : Option ℕ) (before after : List (List ℕ)) (y : ℕ) (row out : List ℕ) →
    after ≡ before ++ row ∷ [] → length before ≡ y → out ≡ kept gas c h behind y row → Returned gas c h behind before after (Some out)
came_out gas c h behind before after y row out more at is =
    record { row = Some row; more = more; is = ap (λ r. Some r) (is ∙ ap (λ n. kept gas c h behind n row) (sym at)) }

-- with none behind it is that row itself
pub returned_raw : (gas : Rules) (c : ChannelModel) (h : Chirality) (before after : List (List ℕ)) (result : Option (List ℕ)) →
    Returned gas c h None before after result → after ≡ before ++ option_to_list result
returned_raw gas c h before after result back = by back.row back.more back.is
  where
    by : (row : Option (List ℕ)) → after ≡ before ++ option_to_list row → result ≡ option_map (kept gas c h None (length before)) row →
        after ≡ before ++ option_to_list result
    by None more is = more ∙ ap (λ (o : Option (List ℕ)). before ++ option_to_list o) (sym is)
    by (Some row) more is = more ∙ ap (λ (o : Option (List ℕ)). before ++ option_to_list o) (sym is)

-- what a stage does that does not compute
pub not_computing : (m : Mode) (p : Option ℕ) → ((g : ℕ) → m ≡ Computes g → ⊥) → open_pass m ≡ Some p → p ≡ None
not_computing Closed p never e = cc
not_computing HandsOn p never e = cc
not_computing (Computes g) p never e = absurd (never g refl)

-- The same of a stage that is seen as `s` and was `old` at the call.
module _ (gas : Rules) (s old : StageModel) (view : s ≡ old) where
  here : (p : Option ℕ) (q : List (List ℕ)) → MayHaveBeenFed gas old p q → MayHaveBeenFed gas s p q
  here p q fits = subst (λ (v : StageModel). MayHaveBeenFed gas v p q) (sym view) fits

  pub flush-gives : (p : Option ℕ) (q : List (List ℕ)) (below out : List ℕ) (behind : Option ℕ) → MayHaveBeenFed gas old p q → (s.pass ≡ Some None → ⊥) →
      0 < s.fed → s.fed ≡ s.channel.height →
      ((at : ℕ → ℕ → ℕ) → AreRowsAbout s.channel at (s.fed - 1) s.before_last s.last below →
      out ≡ kept gas s.channel s.chirality behind (s.fed - 1) (row_of s.channel.width (λ x. streamed gas s.channel at x (s.fed - 1)))) →
      Returned gas old.channel old.chirality behind (given gas old.channel old.chirality p q) (owed gas old.channel old.chirality p q) (Some out)
  flush-gives None q below out behind fits computes some whole streams = absurd (computes (here None q fits).pass)
  flush-gives (Some g) q below out behind fits computes some whole streams =
      let now = here (Some g) q fits in
      subst (λ (v : StageModel). Returned gas v.channel v.chirality behind (given gas v.channel v.chirality (Some g) q) (owed gas v.channel v.chirality (Some g) q) (Some out)) view
      (came_out gas s.channel s.chirality behind _ _ (s.fed - 1) _ out (gives-bottom gas s g q now some whole)
      (given-fewer gas s g q now some (omega (arith, whole))) (streams _ (about-bottom gas s g q now below some whole)))

  -- a stage that hands rows on
  module _ (p : Option ℕ) (q : List (List ℕ)) (r row : List ℕ) (fits : MayHaveBeenFed gas old p q)
      (enters : row ≡ kept gas old.channel old.chirality p (length q) r) where
    pub hands_on-fits : (s' : StageModel) → p ≡ None → s'.pass ≡ s.pass → s'.fed ≡ s.fed + 1 → MayHaveBeenFed gas s' p (q ++ r ∷ [])
    hands_on-fits s' none pass fed =
        let now = here p q fits in
        subst (λ o. MayHaveBeenFed gas s' o (q ++ r ∷ [])) (sym none)
        (record { pass = pass ∙ now.pass ∙ ap (λ o. Some o) none; fed = omega (arith, fed, now.fed, length_push q r); held = tt })

    pub hands_on-gives : (out : List ℕ) (behind : Option ℕ) → p ≡ None → out ≡ kept gas s.channel s.chirality behind s.fed row →
        Returned gas old.channel old.chirality behind (given gas old.channel old.chirality p q) (given gas old.channel old.chirality p (q ++ r ∷ [])) (Some out)
    hands_on-gives out behind none is =
        let entered : row ≡ r = enters ∙ ap (λ o. kept gas old.channel old.chirality o (length q) r) none in
        subst (λ o. Returned gas old.channel old.chirality behind (given gas old.channel old.chirality o q) (given gas old.channel old.chirality o (q ++ r ∷ [])) (Some out)) (sym none)
        (came_out gas old.channel old.chirality behind q (q ++ r ∷ []) s.fed r out refl (sym (here p q fits).fed)
        (is ∙ ap (λ (v : StageModel). kept gas v.channel v.chirality behind s.fed row) view ∙ ap (kept gas old.channel old.chirality behind s.fed) entered))

  -- a stage that computes
  module _ (gen : ℕ) (computing : s.pass ≡ Some (Some gen)) where
    enters_as : (g : ℕ) (q : List (List ℕ)) (r row : List ℕ) → row ≡ kept gas old.channel old.chirality (Some g) (length q) r →
        row ≡ collided_at gas s.channel (chirality_bit s.chirality s.channel.width g) (q ++ r ∷ []) (length q)
    enters_as g q r row enters =
        enters ∙ ap (λ (v : StageModel). kept gas v.channel v.chirality (Some g) (length q) r) (sym view)
        ∙ collided_at-next gas s.channel (chirality_bit s.chirality s.channel.width g) q r

    pub pass-fits : (p : Option ℕ) (q : List (List ℕ)) (r row : List ℕ) (chirality : Chirality) (before_last : List ℕ) → MayHaveBeenFed gas old p q →
        row ≡ kept gas old.channel old.chirality p (length q) r → chirality ≡ s.chirality → (0 < s.fed → before_last ≡ s.last) →
        MayHaveBeenFed gas (record s { chirality = chirality; fed = s.fed + 1; before_last = before_last; last = row }) p (q ++ r ∷ [])
    pass-fits None q r row chirality before_last fits enters same moved = absurd (let e = (here None q fits).pass in cc)
    pass-fits (Some g) q r row chirality before_last fits enters same moved =
        let now = here (Some g) q fits in
        subst (λ v. MayHaveBeenFed gas (record s { chirality = v; fed = s.fed + 1; before_last = before_last; last = row }) (Some g) (q ++ r ∷ []))
        (sym same)
        (fits-push gas s g q now r row (enters_as g q r row enters) before_last (λ one. moved (omega (arith, now.fed))))

    pub pass-gives : (p : Option ℕ) (q : List (List ℕ)) (r row out : List ℕ) (behind : Option ℕ) → MayHaveBeenFed gas old p q →
        row ≡ kept gas old.channel old.chirality p (length q) r → 0 < s.fed → s.fed < s.channel.height →
        ((at : ℕ → ℕ → ℕ) → AreRowsAbout s.channel at (s.fed - 1) s.before_last s.last row →
        out ≡ kept gas s.channel s.chirality behind (s.fed - 1) (row_of s.channel.width (λ x. streamed gas s.channel at x (s.fed - 1)))) →
        Returned gas old.channel old.chirality behind (given gas old.channel old.chirality p q) (given gas old.channel old.chirality p (q ++ r ∷ [])) (Some out)
    pass-gives None q r row out behind fits enters some room streams = absurd (let e = (here None q fits).pass in cc)
    pass-gives (Some g) q r row out behind fits enters some room streams =
        let now = here (Some g) q fits in
        let collides = enters_as g q r row enters in
        subst (λ (v : StageModel). Returned gas v.channel v.chirality behind (given gas v.channel v.chirality (Some g) q) (given gas v.channel v.chirality (Some g) (q ++ r ∷ [])) (Some out)) view
        (came_out gas s.channel s.chirality behind _ _ (s.fed - 1) _ out (gives-next gas s g q now r row collides some room)
        (given-fewer gas s g q now some (omega (arith, room))) (streams _ (about-next gas s g q now r row collides some)))

    -- the first row gives none
    pub first-gives : (p : Option ℕ) (q : List (List ℕ)) (r : List ℕ) (behind : Option ℕ) → MayHaveBeenFed gas old p q → s.fed ≡ 0 →
        Returned gas old.channel old.chirality behind (given gas old.channel old.chirality p q) (given gas old.channel old.chirality p (q ++ r ∷ [])) None
    first-gives None q r behind fits first = absurd (let e = (here None q fits).pass in cc)
    first-gives (Some g) [] r behind fits first = record { row = None; more = refl; is = refl }
    first-gives (Some g) (x ∷ q) r behind fits first = absurd (omega (arith, (here (Some g) (x ∷ q) fits).fed))

-- a stage that holds a row does not hand rows on
pub not_handing_on : (m : Mode) (o : Option (List ℕ)) (r : List ℕ) → Some r ≡ o → (m ≡ HandsOn → o ≡ None) → open_pass m ≡ Some None → ⊥
not_handing_on Closed o r e none passes = cc
not_handing_on HandsOn o r e none passes = let n = none refl in cc
not_handing_on (Computes g) o r e none passes = cc

-- a stage that computes and holds no row was fed none
pub none_fed : (fed : ℕ) (o : Option (List ℕ)) → o ≡ None → (0 < fed → IsSome o) → fed ≡ 0
none_fed zero o e some = refl
none_fed (suc n) o e some = absurd (false≢true (subst IsSome e (some (omega arith))))
