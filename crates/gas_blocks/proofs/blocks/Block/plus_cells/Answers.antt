use Rattle.std.proofs.Common.{◌≡◌, ◌∙◌, ◌+◌, ◌-◌, ◌<◌, ◌≤◌, ℕ, ap, ap₂, sym, subst, refl, length, arith}
use Rattle.std.specs.List.{range_with_len}
use Rattle.std.proofs.lemmas.Int.{ints}
use Rattle.std.proofs.lemmas.List.FromFn.{length-range_with_len}
use Rattle.gas_geom.specs.declared.size.TheConstants.{MOST_SIDE}
use Rattle.gas_bits.specs.Words.{bit}
use Rattle.gas_bits.specs.Planes.{state}
use Rattle.gas_bits.proofs.Ones.{count-le}
use Rattle.gas_blocks.specs.Inner.Tally.{HasRoom, most_cells, plus_particles}
use Rattle.gas_blocks.specs.declared.blocks.Block.{Block}
use Rattle.gas_blocks.proofs.Counts.{counted, counted-none, counted-more, counted-all, counted-room, plane-holding}
use Rattle.gas_blocks.proofs.blocks.Block.plus_cells.Goals as goal

pub overflow_sub-to-2 : goal.overflow_sub-to-2
overflow_sub-to-2 g c =
    omega (arith, c.count_in.ensures.count, count-le (bit c.args.solid.now) c.args.from (c.args.to - c.args.from))

pub loop-i-init : goal.loop-i-init
loop-i-init g c =
    let cells = range_with_len c.args.from (c.args.to - c.args.from) in
    counted-none g.G.Gas.rules (bit c.args.solid.now) (state c.args.states.now (length c.args.solid.now) g.G.Gas.rules.dirs) c.args.self _ cells refl refl
    (ap (λ k. c.args.self.fluid + k) (c.from.ensures ∙ ap₂ (λ m n. m - n) (sym (length-range_with_len c.args.from (c.args.to - c.args.from))) c.count_in.ensures.count))
    refl (omega (arith, ints)) (omega (arith, ints))

pub plus_particles-block-requires-clause-room : goal.plus_particles-block-requires-clause-room
plus_particles-block-requires-clause-room g c =
    let cells = range_with_len c.args.from (c.args.to - c.args.from) in
    let few : c.loop-i.i ≤ g.G.Gas.rules.dirs = omega (arith, g.met.G.Gas.dirs_are) in
    subst (λ (b : Block). HasRoom b most_cells) (sym c.loop-i.invariant)
    (counted-room g.G.Gas.rules g.met.G.Gas.laws (bit c.args.solid.now) (state c.args.states.now (length c.args.solid.now) g.G.Gas.rules.dirs) c.args.self cells c.loop-i.i _ few
    (omega (arith, length-range_with_len c.args.from (c.args.to - c.args.from))) c.requires.room)

pub loop-i-preserved : goal.loop-i-preserved
loop-i-preserved g c =
    let gas = g.G.Gas.rules in
    let n : ℕ = length c.args.solid.now in
    let at = state c.args.states.now n gas.dirs in
    let cells = range_with_len c.args.from (c.args.to - c.args.from) in
    let within : c.loop-i.i < gas.dirs = omega (arith, g.met.G.Gas.dirs_are, c.loop-i-test.true) in
    let many = c.count_in-in-loop-i.ensures.count
    ∙ plane-holding c.args.states.now n gas.dirs c.loop-i.i c.args.from (c.args.to - c.args.from) c.requires.same within (omega (arith, c.requires.within, c.requires.order)) in
    c.plus_particles-block.ensures
    ∙ ap₂ (λ (b : Block) k. plus_particles gas b c.loop-i.i k) c.loop-i.invariant many
    ∙ counted-more gas (bit c.args.solid.now) at c.args.self cells c.loop-i.i

pub returns-clause-cells : goal.returns-clause-cells
returns-clause-cells g c =
    let gas = g.G.Gas.rules in
    let at = state c.args.states.now (length c.args.solid.now) gas.dirs in
    let cells = range_with_len c.args.from (c.args.to - c.args.from) in
    let all : c.loop-i.i ≡ gas.dirs = omega (arith, g.met.G.Gas.dirs_are) in
    c.loop-i.invariant
    ∙ ap (counted gas (bit c.args.solid.now) at c.args.self cells) all
    ∙ counted-all gas (bit c.args.solid.now) at c.args.self cells

pub returns-clause-room : goal.returns-clause-room
returns-clause-room g c n room =
    let few : c.loop-i.i ≤ g.G.Gas.rules.dirs = omega (arith, g.met.G.Gas.dirs_are) in
    subst (λ (b : Block). HasRoom b (n + MOST_SIDE)) (sym c.loop-i.invariant)
    (counted-room g.G.Gas.rules g.met.G.Gas.laws _ _ c.args.self _ c.loop-i.i n few (omega (arith, length-range_with_len c.args.from (c.args.to - c.args.from))) room)
