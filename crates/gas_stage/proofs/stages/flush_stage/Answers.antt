use Rattle.std.proofs.Common.{◌≡◌, IfSome, length, set, ap, sym, ◌∙◌, subst, refl}
use Rattle.gas_geom.specs.Channel.{ChannelModel}
use Rattle.gas_stage.proofs.Composed.{none_behind, one_behind, from_flushed, can_feed, flushes, can_be_fed}
use Rattle.gas_stage.proofs.stages.flush_stage.Goals as goal

pub end-last-requires-clause-open : goal.end-last-requires-clause-open
end-last-requires-clause-open g c =
    let ch : ChannelModel = c.requires.fits.0 in
    (can_feed g.G.Gas.rules ch c.requires.fits.1.0 c.args.stages.now c.args.k c.index-stages-k.result c.requires.stage ch.height
    (from_flushed g.G.Gas.rules ch c.requires.fits.1.0 c.args.k c.args.stages.now c.requires.fits.1.1.0 c.requires.stage)).1

pub end-last-requires-clause-all : goal.end-last-requires-clause-all
end-last-requires-clause-all g c =
    let ch : ChannelModel = c.requires.fits.0 in
    let known = can_feed g.G.Gas.rules ch c.requires.fits.1.0 c.args.stages.now c.args.k c.index-stages-k.result c.requires.stage ch.height
    (from_flushed g.G.Gas.rules ch c.requires.fits.1.0 c.args.k c.args.stages.now c.requires.fits.1.1.0 c.requires.stage) in
    known.2 ∙ sym (ap (λ (v : ChannelModel). v.height) known.0)

pub end-last-requires-clause-scratch_wide : goal.end-last-requires-clause-scratch_wide
end-last-requires-clause-scratch_wide g c =
    let ch : ChannelModel = c.requires.fits.0 in
    let known = can_feed g.G.Gas.rules ch c.requires.fits.1.0 c.args.stages.now c.args.k c.index-stages-k.result c.requires.stage ch.height
    (from_flushed g.G.Gas.rules ch c.requires.fits.1.0 c.args.k c.args.stages.now c.requires.fits.1.1.0 c.requires.stage) in
    c.requires.fits.1.1.1 ∙ sym (ap (λ (v : ChannelModel). v.width) known.0)

pub pass_from-requires : goal.pass_from-requires
pass_from-requires g c =
    let ch : ChannelModel = c.requires.fits.0 in
    let some = sym c.is_some.ensures ∙ c.if-is_some.true in
    let way = from_flushed g.G.Gas.rules ch c.requires.fits.1.0 c.args.k c.args.stages.now c.requires.fits.1.1.0 c.requires.stage in
    let known = can_feed g.G.Gas.rules ch c.requires.fits.1.0 c.args.stages.now c.args.k c.index-stages-k.result c.requires.stage ch.height way in
    let on = can_be_fed g.G.Gas.rules ch c.requires.fits.1.0 c.args.stages.now c.args.k c.index-stages-k.result c.requires.stage c.end-last.new.self
    c.generation_of-then.result c.end-last.result some c.end-last.ensures.gives_all way in
    record {
      fits = (
        ch,
        (
          c.requires.fits.1.0,
          (
            on.0,
            (
              on.1.0,
              on.1.1,
              subst (λ (v : ChannelModel). IfSome c.end-last.result (λ r. length r ≡ v.width)) known.0 c.end-last.ensures.wide,
              c.end-last.ensures.scratch_wide ∙ c.requires.fits.1.1.1,
            ),
          ),
        ),
      );
      some = some;
    }

pub returns-then-is_some-clause-wide : goal.returns-then-is_some-clause-wide
returns-then-is_some-clause-wide g c ch h way =
    let known = can_feed g.G.Gas.rules ch h c.args.stages.now c.args.k c.index-stages-k.result c.requires.stage ch.height
    (from_flushed g.G.Gas.rules ch h c.args.k c.args.stages.now way c.requires.stage) in
    c.pass_from.ensures.wide ch.width (subst (λ (v : ChannelModel). IfSome c.end-last.result (λ r. length r ≡ v.width)) known.0 c.end-last.ensures.wide)

pub returns-then-is_some-clause-fits : goal.returns-then-is_some-clause-fits
returns-then-is_some-clause-fits g c ch h es q was all =
    (flushes g.G.Gas.rules ch h c.args.stages.now c.args.k c.index-stages-k.result c.requires.stage c.end-last.new.self
    c.pass_from.new.stages c.pass_from.ensures.before c.end-last.result c.pass_from.new.row c.generation_of-then.result
    c.end-last.ensures.channel c.end-last.ensures.chirality (c.generation_of-then.ensures ch h)
    (one_behind g.G.Gas.rules ch h _ _ c.end-last.result c.pass_from.new.row (sym c.is_some.ensures ∙ c.if-is_some.true)
    (λ es q r fed enters. (c.pass_from.ensures.fits ch h es q r fed enters, c.pass_from.ensures.gives ch h es q r fed enters)))
    c.end-last.ensures.closed c.end-last.ensures.gives_all es q was all).0

pub returns-then-is_some-clause-gives : goal.returns-then-is_some-clause-gives
returns-then-is_some-clause-gives g c ch h es q was all =
    (flushes g.G.Gas.rules ch h c.args.stages.now c.args.k c.index-stages-k.result c.requires.stage c.end-last.new.self
    c.pass_from.new.stages c.pass_from.ensures.before c.end-last.result c.pass_from.new.row c.generation_of-then.result
    c.end-last.ensures.channel c.end-last.ensures.chirality (c.generation_of-then.ensures ch h)
    (one_behind g.G.Gas.rules ch h _ _ c.end-last.result c.pass_from.new.row (sym c.is_some.ensures ∙ c.if-is_some.true)
    (λ es q r fed enters. (c.pass_from.ensures.fits ch h es q r fed enters, c.pass_from.ensures.gives ch h es q r fed enters)))
    c.end-last.ensures.closed c.end-last.ensures.gives_all es q was all).1

pub returns-else-is_some-clause-fits : goal.returns-else-is_some-clause-fits
returns-else-is_some-clause-fits g c ch h es q was all =
    (flushes g.G.Gas.rules ch h c.args.stages.now c.args.k c.index-stages-k.result c.requires.stage c.end-last.new.self
    (set c.args.stages.now c.args.k c.end-last.new.self) refl c.end-last.result c.end-last.result c.generation_of-then.result
    c.end-last.ensures.channel c.end-last.ensures.chirality (c.generation_of-then.ensures ch h)
    (none_behind g.G.Gas.rules ch h _ c.end-last.result (sym c.is_some.ensures ∙ c.if-is_some.false))
    c.end-last.ensures.closed c.end-last.ensures.gives_all es q was all).0

pub returns-else-is_some-clause-gives : goal.returns-else-is_some-clause-gives
returns-else-is_some-clause-gives g c ch h es q was all =
    (flushes g.G.Gas.rules ch h c.args.stages.now c.args.k c.index-stages-k.result c.requires.stage c.end-last.new.self
    (set c.args.stages.now c.args.k c.end-last.new.self) refl c.end-last.result c.end-last.result c.generation_of-then.result
    c.end-last.ensures.channel c.end-last.ensures.chirality (c.generation_of-then.ensures ch h)
    (none_behind g.G.Gas.rules ch h _ c.end-last.result (sym c.is_some.ensures ∙ c.if-is_some.false))
    c.end-last.ensures.closed c.end-last.ensures.gives_all es q was all).1
