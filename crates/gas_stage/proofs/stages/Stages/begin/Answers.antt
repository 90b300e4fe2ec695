use Rattle.std.proofs.Common.{◌≡◌, [], length, ap, ◌∙◌, sym, refl, subst, arith}
use Rattle.std.proofs.lemmas.List.{with_items_is}
use Rattle.gas_stage.specs.Stages.{StagesModel}
use Rattle.gas_stage.specs.Inner.Stages.{AreClosed}
use Rattle.gas_stage.proofs.stages.Stages.begin.Goals as goal

pub begin_from-requires-clause-closed : goal.begin_from-requires-clause-closed
begin_from-requires-clause-closed g c = (
  c.self.inside.channel.now,
  (
    c.self.inside.chirality,
    rw c.deref_mut.ensures.value
        (c.self.invariant.closed (subst (λ (v : StagesModel). v.flushed ≡ length v.stages) (sym c.self.view_is) c.requires.closed)),
  ),
)

pub invariant_of-self : goal.invariant_of-self
invariant_of-self g c =
    let closed = c.self.invariant.closed (subst (λ (v : StagesModel). v.flushed ≡ length v.stages) (sym c.self.view_is) c.requires.closed) in
    let same : length c.begin_from.new.stages ≡ length c.self.inside.stages.items = c.begin_from.auto.stages ∙ ap length c.deref_mut.ensures.value in
    rw (with_items_is c.self.inside.stages c.begin_from.new.stages (c.begin_from.auto.stages ∙ c.deref_mut.ensures.len)) (record {
      some = omega (arith, same);
      few = omega (arith, same);
      few_rows = c.self.invariant.few_rows;
      entry_bits_wide = c.self.invariant.entry_bits_wide;
      entry_bits_alike = c.self.invariant.entry_bits_alike;
      scratch_wide = c.self.invariant.scratch_wide;
      fed_fits = omega arith;
      flushed_fits = omega arith;
      closed = λ e. absurd (omega (arith, same, e));
      under_way = λ _. record {
        es = _;
        q = [];
        fed_is = refl;
        fits = c.begin_from.ensures.fits c.self.inside.channel.now c.self.inside.chirality
            (subst (AreClosed c.self.inside.channel.now c.self.inside.chirality) (sym c.deref_mut.ensures.value) closed);
      };
    })
