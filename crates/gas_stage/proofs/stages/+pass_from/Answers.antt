use Rattle.std.proofs.Common.{rules, ◌≡◌, ◌<◌, length, ap, ◌∙◌, sym, arith, subst, IfSome}
use Rattle.gas_geom.specs.Channel.{ChannelModel}
use Rattle.gas_stage.proofs.Composed.{written, can_feed, passes, can_go_on, one_behind}
use Rattle.gas_stage.proofs.stages.+pass_from.Goals as goal

pub pass_on-requires-clause-open : goal.pass_on-requires-clause-open
pass_on-requires-clause-open g t c =
    (can_feed g.G.Gas.rules c.requires.fits.0 c.requires.fits.1.0 c.args.stages.now c.args.k c.index-stages-k.result (omega arith) c.requires.fits.1.1.0 c.requires.fits.1.1.1.0).1

pub pass_on-requires-clause-room : goal.pass_on-requires-clause-room
pass_on-requires-clause-room g t c =
    let ch : ChannelModel = c.requires.fits.0 in
    let known = can_feed g.G.Gas.rules ch c.requires.fits.1.0 c.args.stages.now c.args.k c.index-stages-k.result (omega arith) c.requires.fits.1.1.0 c.requires.fits.1.1.1.0 in
    omega (arith, known.2, ap (λ (v : ChannelModel). v.height) known.0, c.requires.fits.1.1.1.1)

pub pass_on-requires-clause-wide : goal.pass_on-requires-clause-wide
pass_on-requires-clause-wide g t c =
    let ch : ChannelModel = c.requires.fits.0 in
    let known = can_feed g.G.Gas.rules ch c.requires.fits.1.0 c.args.stages.now c.args.k c.index-stages-k.result (omega arith) c.requires.fits.1.1.0 c.requires.fits.1.1.1.0 in
    subst (λ (v : ChannelModel). IfSome c.args.row.now (λ r. length r ≡ v.width)) (sym known.0) c.requires.fits.1.1.1.2

pub pass_on-requires-clause-scratch_wide : goal.pass_on-requires-clause-scratch_wide
pass_on-requires-clause-scratch_wide g t c =
    let ch : ChannelModel = c.requires.fits.0 in
    let known = can_feed g.G.Gas.rules ch c.requires.fits.1.0 c.args.stages.now c.args.k c.index-stages-k.result (omega arith) c.requires.fits.1.1.0 c.requires.fits.1.1.1.0 in
    c.requires.fits.1.1.1.3 ∙ sym (ap (λ (v : ChannelModel). v.width) known.0)

pub pass_from-requires : goal.pass_from-requires
pass_from-requires g t c κs within =
    let ch : ChannelModel = c.requires.fits.0 in
    let way = c.requires.fits.1.1.1 in
    let low : c.args.k < length c.args.stages.now = omega arith in
    let on = can_go_on g.G.Gas.rules ch c.requires.fits.1.0 c.args.stages.now c.args.k c.index-stages-k.result low c.pass_on.new.self c.requires.fits.1.1.0 way.0 in
    let known = can_feed g.G.Gas.rules ch c.requires.fits.1.0 c.args.stages.now c.args.k c.index-stages-k.result low c.requires.fits.1.1.0 way.0 in (
      search rules,
      (
        search rules,
        (
          (
            ch,
            (
              c.requires.fits.1.0,
              (
                on.0,
                (
                  on.1.0,
                  omega (arith, on.1.1, way.1),
                  subst (λ (v : ChannelModel). IfSome c.pass_on.new.row (λ r. length r ≡ v.width)) known.0 c.pass_on.ensures.wide,
                  c.pass_on.ensures.scratch_wide ∙ way.3,
                ),
              ),
            ),
          ),
          sym c.is_some.ensures ∙ c.if-is_some.true,
        ),
      ),
    )

pub returns-then-is_some-clause-before : goal.returns-then-is_some-clause-before
returns-then-is_some-clause-before g t c =
    (written c.args.stages.now c.pass_from.new.stages c.args.k c.pass_on.new.self (omega arith) c.pass_from.ensures.before).0

pub returns-then-is_some-clause-fits : goal.returns-then-is_some-clause-fits
returns-then-is_some-clause-fits g t c ch h es q r was enters =
    let gas = g.G.Gas.rules in
    (passes gas ch h c.args.stages.now c.args.k c.index-stages-k.result (omega arith) c.pass_on.new.self
    c.pass_from.new.stages c.pass_from.ensures.before c.pass_on.new.row c.pass_from.new.row c.generation_of-then.result
    c.pass_on.ensures.channel c.pass_on.ensures.chirality (c.generation_of-then.ensures ch h)
    (one_behind gas ch h _ _ c.pass_on.new.row c.pass_from.new.row (sym c.is_some.ensures ∙ c.if-is_some.true)
    (λ es q r fed enters. (c.pass_from.ensures.fits ch h es q r fed enters, c.pass_from.ensures.gives ch h es q r fed enters)))
    c.args.row.now c.pass_on.ensures.fits c.pass_on.ensures.gives es q r was enters).0
