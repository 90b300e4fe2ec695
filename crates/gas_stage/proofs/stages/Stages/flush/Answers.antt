use Rattle.std.proofs.Common.{◌≡◌, ◌+◌, ◌≤◌, ◌++◌, ℕ, [], List, IfSome, length, ap, ◌∙◌, sym, subst, arith, append-nil}
use Rattle.std.specs.Option.{option_to_list}
use Rattle.std.proofs.lemmas.List.{with_items_is}
use Rattle.gas_geom.specs.Channel.{ChannelModel}
use Rattle.gas_geom.specs.declared.size.TheConstants.{MOST_SIDE}
use Rattle.gas_rows.specs.Chirality.{RandomBitsModel}
use Rattle.gas_stage.specs.Stages.{StagesModel, MayAllHaveBeenFed, MayEachHaveBeenFed, owed_by, given_by}
use Rattle.gas_stage.specs.Inner.Stages.{IsUnderWay}
use Rattle.gas_stage.proofs.Composed.{closes, gives_all, renamed}
use Rattle.gas_stage.proofs.stages.Stages.flush.Goals as goal

pub invariant_of-self : goal.invariant_of-self
invariant_of-self g c =
    let s = c.self.inside in
    let here = c.loop-k.invariant in
    rw (here.channel, here.chirality, here.fed, here.flushed, here.entry_bits) (record {
      some = omega (arith, here.count, c.self.invariant.some);
      few = omega (arith, here.count, c.self.invariant.few);
      few_rows = c.self.invariant.few_rows;
      entry_bits_wide = c.self.invariant.entry_bits_wide;
      entry_bits_alike = c.self.invariant.entry_bits_alike;
      scratch_wide = here.scratch ∙ c.self.invariant.scratch_wide;
      fed_fits = c.self.invariant.fed_fits;
      flushed_fits = omega (arith, c.loop-k.auto.k-end, c.self.invariant.flushed_fits, here.count, c.len-k-end.ensures, s.stages.ok.0);
      closed = closes g.G.Gas.rules s.channel.now s.chirality c.loop-k.k s.fed c.loop-k.self-inside.stages.items here.way;
      under_way = λ _. here.way;
    })

pub invariant_of-self-then-is_some : goal.invariant_of-self-then-is_some
invariant_of-self-then-is_some g c =
    let s = c.self.inside in
    let l = c.loop-k.self-inside in
    let here = c.loop-k.invariant in
    let new = c.flush_stage-given.new.stages in
    let same : length new ≡ length s.stages.items =
    c.flush_stage-given.auto.stages ∙ ap length c.deref_mut.ensures.value ∙ here.count in
    let all : s.fed ≡ s.channel.now.height = subst (λ (v : StagesModel). v.fed ≡ v.channel.height) (sym c.self.view_is) c.requires.all in
    let way = renamed g.G.Gas.rules s.channel.now l.channel.now s.chirality l.chirality (c.loop-k.k + 1) s.fed l.fed new here.channel here.chirality here.fed
    (record {
      es = here.way.es;
      q = here.way.q;
      fed_is = here.way.fed_is;
      fits = c.flush_stage-given.ensures.fits s.channel.now s.chirality here.way.es here.way.q (rw c.deref_mut.ensures.value here.way.fits)
          (sym here.way.fed_is ∙ all);
    }) in
    rw (with_items_is l.stages new (c.flush_stage-given.auto.stages ∙ c.deref_mut.ensures.len)) (record {
      some = omega (arith, same, c.self.invariant.some);
      few = omega (arith, same, c.self.invariant.few);
      few_rows = subst (λ (ch : ChannelModel). ch.height ≤ MOST_SIDE) (sym here.channel) c.self.invariant.few_rows;
      entry_bits_wide = ap (λ (b : RandomBitsModel). length b.bits) here.entry_bits ∙ c.self.invariant.entry_bits_wide
          ∙ sym (ap (λ (ch : ChannelModel). ch.width) here.channel);
      entry_bits_alike = ap (λ (b : RandomBitsModel). b.chirality) here.entry_bits ∙ c.self.invariant.entry_bits_alike ∙ sym here.chirality;
      scratch_wide = c.flush_stage-given.ensures.scratch_wide ∙ here.scratch ∙ c.self.invariant.scratch_wide
          ∙ sym (ap (λ (ch : ChannelModel). ch.width) here.channel);
      fed_fits = omega (arith, here.fed, ap (λ (ch : ChannelModel). ch.height) here.channel, c.self.invariant.fed_fits);
      flushed_fits = omega (arith, same, c.loop-k-test.true, c.len-k-end.ensures, s.stages.ok.0);
      closed = closes g.G.Gas.rules l.channel.now l.chirality (c.loop-k.k + 1) l.fed new way;
      under_way = λ _. way;
    })

pub returns-then-is_some-clause-wide : goal.returns-then-is_some-clause-wide
returns-then-is_some-clause-wide g c =
    let s = c.self.inside in
    let all : s.fed ≡ s.channel.now.height = subst (λ (v : StagesModel). v.fed ≡ v.channel.height) (sym c.self.view_is) c.requires.all in
    let way = subst (λ n. IsUnderWay g.G.Gas.rules s.channel.now s.chirality c.loop-k.k n c.loop-k.self-inside.stages.items) all c.loop-k.invariant.way in
    subst (λ (v : StagesModel). IfSome c.flush_stage-given.result (λ r. length r ≡ v.channel.width)) c.self.view_is
    (c.flush_stage-given.ensures.wide s.channel.now s.chirality (rw c.deref_mut.ensures.value way))

pub returns-then-is_some-clause-gives_all : goal.returns-then-is_some-clause-gives_all
returns-then-is_some-clause-gives_all g c closed es q was =
    let s = c.self.inside in
    let here = c.loop-k.invariant in
    let old = subst (λ (v : StagesModel). MayAllHaveBeenFed g.G.Gas.rules v es q) (sym c.self.view_is) was in
    let all : length q ≡ s.channel.now.height =
    sym old.fed ∙ subst (λ (v : StagesModel). v.fed ≡ v.channel.height) (sym c.self.view_is) c.requires.all in
    let each : MayEachHaveBeenFed g.G.Gas.rules s.channel.now s.chirality c.loop-k.k c.deref_mut.result.now es q =
    rw c.deref_mut.ensures.value (here.fits es q old.each all) in
    let last : c.loop-k.k + 1 ≡ length c.flush_stage-given.new.stages =
    rw (with_items_is c.loop-k.self-inside.stages c.flush_stage-given.new.stages (c.flush_stage-given.auto.stages ∙ c.deref_mut.ensures.len)) at closed in
    subst (λ (v : StagesModel). owed_by g.G.Gas.rules v.channel v.chirality es q
    ≡ given_by g.G.Gas.rules v.channel v.chirality v.flushed es q ++ option_to_list c.flush_stage-given.result) c.self.view_is
    (gives_all g.G.Gas.rules s.channel.now s.chirality (c.loop-k.k + 1) c.flush_stage-given.new.stages es q
    (c.flush_stage-given.ensures.fits s.channel.now s.chirality es q each all) last
    ∙ c.flush_stage-given.ensures.gives s.channel.now s.chirality es q each all
    ∙ ap (λ (l : List (List ℕ)). l ++ option_to_list c.flush_stage-given.result) (here.gives es q old.each all))

pub returns-clause-gives_all : goal.returns-clause-gives_all
returns-clause-gives_all g c closed es q was =
    let s = c.self.inside in
    let here = c.loop-k.invariant in
    let old = subst (λ (v : StagesModel). MayAllHaveBeenFed g.G.Gas.rules v es q) (sym c.self.view_is) was in
    let all : length q ≡ s.channel.now.height =
    sym old.fed ∙ subst (λ (v : StagesModel). v.fed ≡ v.channel.height) (sym c.self.view_is) c.requires.all in
    subst (λ (v : StagesModel). owed_by g.G.Gas.rules v.channel v.chirality es q
    ≡ given_by g.G.Gas.rules v.channel v.chirality v.flushed es q ++ []) c.self.view_is
    (gives_all g.G.Gas.rules s.channel.now s.chirality c.loop-k.k c.loop-k.self-inside.stages.items es q (here.fits es q old.each all)
    (sym here.flushed ∙ closed) ∙ here.gives es q old.each all ∙ sym (append-nil _))
