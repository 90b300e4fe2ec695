use Rattle.std.proofs.Common.{◌≡◌, pos, ◌*ℤ◌, ap₂, to_z, of_z, w64, arith}
use Rattle.std.proofs.lemmas.Int.{ints}
use Rattle.gas_blocks.proofs.Tallies.{small-within}
use Rattle.gas_blocks.proofs.Counts.{times-within, particles_made}
use Rattle.gas_blocks.proofs.blocks.Block.plus_particles.Goals as goal

pub overflow_add-result-2 : goal.overflow_add-result-2
overflow_add-result-2 g c =
    let gas = g.G.Gas.rules in
    let small = (g.met.G.Gas.laws.momentum_small c.args.i c.requires.direction).0 in
    let near = small-within (gas.momentum c.args.i).0 small in
    let times : to_z w64 (of_z w64 c.from-times.result) ≡ pos c.args.count = omega (arith, ints) in
    let unit : to_z w64 (of_z w64 c.from-2.result) ≡ (gas.momentum c.args.i).0 = omega (arith, ints, c.momentum-px.ensures.eastwards, near.low, near.high) in
    let east : to_z w64 (of_z w64 c.from-2.result) *ℤ to_z w64 (of_z w64 c.from-times.result) ≡ (gas.momentum c.args.i).0 *ℤ pos c.args.count = ap₂ (λ y z. y *ℤ z) unit times in
    let e = times-within (gas.momentum c.args.i).0 c.args.count small in
    omega (arith, ints, east, e.low, e.high, c.requires.room.west, c.requires.room.east)

pub overflow_add-result-3 : goal.overflow_add-result-3
overflow_add-result-3 g c =
    let gas = g.G.Gas.rules in
    let small = (g.met.G.Gas.laws.momentum_small c.args.i c.requires.direction).1 in
    let near = small-within (gas.momentum c.args.i).1 small in
    let times : to_z w64 (of_z w64 c.from-times.result) ≡ pos c.args.count = omega (arith, ints) in
    let unit : to_z w64 (of_z w64 c.from-3.result) ≡ (gas.momentum c.args.i).1 = omega (arith, ints, c.momentum-px.ensures.northwards, near.low, near.high) in
    let north : to_z w64 (of_z w64 c.from-3.result) *ℤ to_z w64 (of_z w64 c.from-times.result) ≡ (gas.momentum c.args.i).1 *ℤ pos c.args.count = ap₂ (λ y z. y *ℤ z) unit times in
    let n = times-within (gas.momentum c.args.i).1 c.args.count small in
    omega (arith, ints, north, n.low, n.high, c.requires.room.south, c.requires.room.north)

pub returns : goal.returns
returns g c =
    let gas = g.G.Gas.rules in
    let small = g.met.G.Gas.laws.momentum_small c.args.i c.requires.direction in
    let near_east = small-within (gas.momentum c.args.i).0 small.0 in
    let near_north = small-within (gas.momentum c.args.i).1 small.1 in
    let times : to_z w64 (of_z w64 c.from-times.result) ≡ pos c.args.count = omega (arith, ints) in
    let unit_east : to_z w64 (of_z w64 c.from-2.result) ≡ (gas.momentum c.args.i).0 = omega (arith, ints, c.momentum-px.ensures.eastwards, near_east.low, near_east.high) in
    let east : to_z w64 (of_z w64 c.from-2.result) *ℤ to_z w64 (of_z w64 c.from-times.result) ≡ (gas.momentum c.args.i).0 *ℤ pos c.args.count = ap₂ (λ y z. y *ℤ z) unit_east times in
    let unit_north : to_z w64 (of_z w64 c.from-3.result) ≡ (gas.momentum c.args.i).1 = omega (arith, ints, c.momentum-px.ensures.northwards, near_north.low, near_north.high) in
    let north : to_z w64 (of_z w64 c.from-3.result) *ℤ to_z w64 (of_z w64 c.from-times.result) ≡ (gas.momentum c.args.i).1 *ℤ pos c.args.count = ap₂ (λ y z. y *ℤ z) unit_north times in
    let e = times-within (gas.momentum c.args.i).0 c.args.count small.0 in
    let n = times-within (gas.momentum c.args.i).1 c.args.count small.1 in
    particles_made gas c.args.self c.args.i c.args.count _ _ _ c.from.ensures
    (omega (arith, ints, east, e.low, e.high, c.requires.room.west, c.requires.room.east))
    (omega (arith, ints, north, n.low, n.high, c.requires.room.south, c.requires.room.north))
