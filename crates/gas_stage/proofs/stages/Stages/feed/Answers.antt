use Rattle.std.proofs.Common.{◌≡◌, ◌<◌, ℕ, Option, Some, List, [], ◌∷◌, ◌++◌, length, ap, ◌∙◌, sym, subst, refl, arith}
use Rattle.std.specs.Option.{option_to_list}
use Rattle.std.proofs.lemmas.List.{with_items_is, length_push}
use Rattle.gas_stage.specs.Stages.{StagesModel, MayAllHaveBeenFed, MayEachHaveBeenFed, given_by}
use Rattle.gas_stage.specs.Inner.Passes.{kept, first_does}
use Rattle.gas_stage.specs.Inner.Stages.{IsUnderWay}
use Rattle.gas_stage.proofs.Composed.{none_flushed}
use Rattle.gas_stage.proofs.stages.Stages.feed.Given.{Over}
use Rattle.gas_stage.proofs.stages.Stages.feed.Goals.{After-self-2-1}
use Rattle.gas_stage.proofs.stages.Stages.feed.Goals as goal

-- the row is passed on as the first stage keeps it
enters : (g : Over) (c : After-self-2-1 g) (es : List (Option ℕ)) (q : List (List ℕ)) →
    MayEachHaveBeenFed g.G.Gas.rules c.self.inside.channel.now c.self.inside.chirality 0 c.self.inside.stages.items es q → c.self.inside.fed ≡ length q →
    Some c.collide_if.new.row ≡ Some (kept g.G.Gas.rules c.self.inside.channel.now c.self.inside.chirality (first_does es) (length q) c.args.row)
enters g c es q each fed =
    let s = c.self.inside in
    let row = kept g.G.Gas.rules s.channel.now in
    ap (λ r. Some r) (c.collide_if.ensures.kept
    ∙ ap (λ p. row s.entry_bits.chirality p s.fed c.args.row) (c.generation_of-generation.ensures s.channel.now s.chirality es q (rw c.deref.ensures.value each))
    ∙ ap (λ h. row h (first_does es) s.fed c.args.row) c.self.invariant.entry_bits_alike
    ∙ ap (λ y. row s.chirality (first_does es) y c.args.row) fed)

pub pass_from-requires : goal.pass_from-requires
pass_from-requires g c =
    let s = c.self.inside in
    let way = c.self.invariant.under_way (subst (λ (v : StagesModel). v.flushed < length v.stages) (sym c.self.view_is) c.requires.«open») in
    let room : s.fed < s.channel.now.height = subst (λ (v : StagesModel). v.fed < v.channel.height) (sym c.self.view_is) c.requires.room in
    let none = none_flushed g.G.Gas.rules s.channel.now s.chirality s.flushed s.fed s.stages.items way
    (subst (λ (v : StagesModel). v.flushed < length v.stages) (sym c.self.view_is) c.requires.«open») room in
    record {
      fits = (
        s.channel.now,
        (
          s.chirality,
          (
            s.fed,
            (
              rw c.deref_mut.ensures.value
                  (subst (λ n. IsUnderWay g.G.Gas.rules s.channel.now s.chirality n s.fed s.stages.items) none way),
              room,
              c.collide_if.ensures.wide,
              c.self.invariant.scratch_wide,
            ),
          ),
        ),
      );
      some = refl;
    }

pub returns-clause-none_flushed : goal.returns-clause-none_flushed
returns-clause-none_flushed g c =
    let s = c.self.inside in
    let opens = subst (λ (v : StagesModel). v.flushed < length v.stages) (sym c.self.view_is) c.requires.«open» in
    none_flushed g.G.Gas.rules s.channel.now s.chirality s.flushed s.fed s.stages.items (c.self.invariant.under_way opens) opens
    (subst (λ (v : StagesModel). v.fed < v.channel.height) (sym c.self.view_is) c.requires.room)

pub invariant_of-self : goal.invariant_of-self
invariant_of-self g c =
    let s = c.self.inside in
    let opens : s.flushed < length s.stages.items = subst (λ (v : StagesModel). v.flushed < length v.stages) (sym c.self.view_is) c.requires.«open» in
    let room : s.fed < s.channel.now.height = subst (λ (v : StagesModel). v.fed < v.channel.height) (sym c.self.view_is) c.requires.room in
    let way = c.self.invariant.under_way opens in
    let none : s.flushed ≡ 0 = none_flushed g.G.Gas.rules s.channel.now s.chirality s.flushed s.fed s.stages.items way opens room in
    let each = subst (λ n. MayEachHaveBeenFed g.G.Gas.rules s.channel.now s.chirality n s.stages.items way.es way.q) none way.fits in
    let same : length c.pass_from.new.stages ≡ length s.stages.items = c.pass_from.auto.stages ∙ ap length c.deref_mut.ensures.value in
    rw (with_items_is s.stages c.pass_from.new.stages (c.pass_from.auto.stages ∙ c.deref_mut.ensures.len)) (record {
      some = omega (arith, same, c.self.invariant.some);
      few = omega (arith, same, c.self.invariant.few);
      few_rows = c.self.invariant.few_rows;
      entry_bits_wide = c.collide_if.ensures.bits_wide ∙ c.self.invariant.entry_bits_wide;
      entry_bits_alike = c.collide_if.ensures.chirality ∙ c.self.invariant.entry_bits_alike;
      scratch_wide = c.pass_from.ensures.scratch_wide ∙ c.self.invariant.scratch_wide;
      fed_fits = omega (arith, room);
      flushed_fits = omega (arith, same, opens);
      closed = λ e. absurd (omega (arith, same, e, opens));
      under_way = λ _. record {
        es = way.es;
        q = way.q ++ c.args.row ∷ [];
        fed_is = omega (arith, way.fed_is, length_push way.q c.args.row);
        fits = subst (λ n. MayEachHaveBeenFed g.G.Gas.rules s.channel.now s.chirality n c.pass_from.new.stages way.es (way.q ++ c.args.row ∷ [])) (sym none)
            (c.pass_from.ensures.fits s.channel.now s.chirality way.es way.q c.args.row (rw c.deref_mut.ensures.value each)
            (enters g c way.es way.q each way.fed_is));
      };
    })

pub returns-clause-fits : goal.returns-clause-fits
returns-clause-fits g c es q was =
    let s = c.self.inside in
    let opens = subst (λ (v : StagesModel). v.flushed < length v.stages) (sym c.self.view_is) c.requires.«open» in
    let none = none_flushed g.G.Gas.rules s.channel.now s.chirality s.flushed s.fed s.stages.items (c.self.invariant.under_way opens) opens
    (subst (λ (v : StagesModel). v.fed < v.channel.height) (sym c.self.view_is) c.requires.room) in
    let old = subst (λ (v : StagesModel). MayAllHaveBeenFed g.G.Gas.rules v es q) (sym c.self.view_is) was in
    let each = subst (λ n. MayEachHaveBeenFed g.G.Gas.rules s.channel.now s.chirality n s.stages.items es q) none old.each in
    record {
      fed = omega (arith, old.fed, length_push q c.args.row);
      each = rw (with_items_is s.stages c.pass_from.new.stages (c.pass_from.auto.stages ∙ c.deref_mut.ensures.len))
          (subst (λ n. MayEachHaveBeenFed g.G.Gas.rules s.channel.now s.chirality n c.pass_from.new.stages es (q ++ c.args.row ∷ [])) (sym none)
          (c.pass_from.ensures.fits s.channel.now s.chirality es q c.args.row (rw c.deref_mut.ensures.value each) (enters g c es q each old.fed)));
    }

pub returns-clause-gives : goal.returns-clause-gives
returns-clause-gives g c es q was =
    let s = c.self.inside in
    let opens = subst (λ (v : StagesModel). v.flushed < length v.stages) (sym c.self.view_is) c.requires.«open» in
    let none = none_flushed g.G.Gas.rules s.channel.now s.chirality s.flushed s.fed s.stages.items (c.self.invariant.under_way opens) opens
    (subst (λ (v : StagesModel). v.fed < v.channel.height) (sym c.self.view_is) c.requires.room) in
    let old = subst (λ (v : StagesModel). MayAllHaveBeenFed g.G.Gas.rules v es q) (sym c.self.view_is) was in
    let each = subst (λ n. MayEachHaveBeenFed g.G.Gas.rules s.channel.now s.chirality n s.stages.items es q) none old.each in
    subst (λ (v : StagesModel). given_by g.G.Gas.rules v.channel v.chirality 0 es (q ++ c.args.row ∷ [])
    ≡ given_by g.G.Gas.rules v.channel v.chirality 0 es q ++ option_to_list c.pass_from.new.row) c.self.view_is
    (c.pass_from.ensures.gives s.channel.now s.chirality es q c.args.row (rw c.deref_mut.ensures.value each) (enters g c es q each old.fed))
