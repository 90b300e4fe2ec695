use Rattle.std.proofs.Common.{◌≡◌, ℕ, ◌^◌, ◌<◌, List, length, get_or, ap, ap₂, sym, subst, ◌∙◌, arith}
use Rattle.std.proofs.lemmas.Bool.Decides.{nat_tests}
use Rattle.std.proofs.lemmas.List.{with_items_is}
use Rattle.gas_geom.specs.Channel.{ChannelModel}
use Rattle.gas_geom.specs.Lattice.{LatticeModel}
use Rattle.gas_layout.specs.Layout.{filling}
use Rattle.gas_layout.specs.Inner.Steps.{filled_before}
use Rattle.gas_layout.proofs.Filled.{filling-small, with_states, set_states-filled_before, width-filled_before, height-filled_before, filled-from_empty, filled-never_at_0, no_particles}
use Rattle.gas_layout.proofs.filling.fill.Goals as goal

pub returns-then-rate-eq0-clause-cells : goal.returns-then-rate-eq0-clause-cells
returns-then-rate-eq0-clause-cells g c = λ w h solid e.
    filled-never_at_0 g.G.Gas.rules c.args.seed c.args.rate w h solid c.args.lattice.now (grind (arith, nat_tests, c.if-rate-eq0.true))
    (no_particles w h solid c.args.lattice.now c.requires.empty e)

pub set_states-requires-clause-states : goal.set_states-requires-clause-states
set_states-requires-clause-states g c =
    let states : List ℕ = c.fill_row.new.states in
    let long : length states ≡ c.loop-y.states.len = c.fill_row.auto.states ∙ c.as_mut_slice.ensures.len in
    subst (λ (row : List ℕ). (x : ℕ) → get_or row x 0 < 2 ^ g.G.Gas.rules.dirs) (sym (c.as_slice.ensures.value ∙ with_items_is c.loop-y.states states long))
    (filling-small g.G.Gas.rules c.args.seed c.args.rate (length c.as_mut_slice.result.now) c.loop-y.y states c.fill_row.auto.states c.fill_row.ensures)

pub loop-y-preserved : goal.loop-y-preserved
loop-y-preserved g c =
    let gas = g.G.Gas.rules in
    let y = c.loop-y.y in
    let states : List ℕ = c.fill_row.new.states in
    let words : List ℕ = c.fill_row.new.words in
    let written = with_items_is c.loop-y.states states (c.fill_row.auto.states ∙ c.as_mut_slice.ensures.len) in
    record {
      channel = ap (λ (m : LatticeModel). m.channel) c.set_states.ensures.written ∙ c.loop-y.invariant.channel;
      wide = ap length written ∙ c.fill_row.auto.states ∙ ap length c.as_mut_slice.ensures.value ∙ c.loop-y.invariant.wide;
      as_wide = ap length (with_items_is c.loop-y.words words (c.fill_row.auto.words ∙ c.as_mut_slice-in-loop-y.ensures.len))
          ∙ c.fill_row.auto.words ∙ ap length c.as_mut_slice-in-loop-y.ensures.value ∙ c.loop-y.invariant.as_wide;
      cells = λ w h solid e.
          let before = c.loop-y.invariant.cells w h solid e in
          let wide : c.width-width.result ≡ w =
          c.width-width.ensures.value ∙ c.size-size.ensures.width ∙ ap (λ (ch : ChannelModel). ch.width) c.channel.ensures.channel
          ∙ ap (λ (m : LatticeModel). m.channel.width) e ∙ width-filled_before gas c.args.seed c.args.rate w h solid 0 in
          let long : length c.as_mut_slice.result.now ≡ w = ap length c.as_mut_slice.ensures.value ∙ c.loop-y.invariant.wide ∙ wide in
          let high : c.args.lattice.now.channel.height ≡ h = ap (λ (m : LatticeModel). m.channel.height) e ∙ height-filled_before gas c.args.seed c.args.rate w h solid 0 in
          c.set_states.ensures.written
          ∙ ap₂ (λ (l : LatticeModel) (s : List ℕ). with_states l y s) before (c.as_slice.ensures.value ∙ written)
          ∙ set_states-filled_before gas c.args.seed c.args.rate w h solid y states
          (omega (arith, c.loop-y-test.true, high, c.height-y-end.ensures.value, c.size-size.ensures.height, ap (λ (ch : ChannelModel). ch.height) c.channel.ensures.channel))
          (λ x within. c.fill_row.ensures x (omega (arith, within, long)) ∙ ap (λ n. filling gas c.args.seed c.args.rate n x y) long);
    }

pub returns-clause-cells : goal.returns-clause-cells
returns-clause-cells g c = λ w h solid e.
    let gas = g.G.Gas.rules in
    let high : c.args.lattice.now.channel.height ≡ h = ap (λ (ch : ChannelModel). ch.height) e in
    let end : c.loop-y.y ≡ h =
    omega (
      arith,
      c.loop-y-test.false,
      c.loop-y.auto.y-end,
      high,
      c.height-y-end.ensures.value,
      c.size-size.ensures.height,
      ap (λ (ch : ChannelModel). ch.height) c.channel.ensures.channel,
    ) in
    filled-from_empty gas c.args.seed c.args.rate w h solid c.args.lattice.now c.loop-y.lattice
    (no_particles w h solid c.args.lattice.now c.requires.empty e)
    (λ begun. c.loop-y.invariant.cells w h solid begun ∙ ap (filled_before gas c.args.seed c.args.rate w h solid) end)
