use Rattle.std.proofs.Common.{◌≡◌, ◌∙◌, ◌<◌, ◌+◌, ◌-◌, ◌*◌, ◌≤◌, ℕ, min, length, ap, ap₂, subst, fold, arith, rules}
use Rattle.std.specs.List.{range_with_len}
use Rattle.gas_geom.specs.Channel.{is_solid}
use Rattle.gas_geom.specs.Lattice.{cell}
use Rattle.gas_geom.specs.declared.size.TheConstants.{MOST_SIDE}
use Rattle.gas_bits.specs.Words.{words_in, bit}
use Rattle.gas_bits.specs.Planes.{state}
use Rattle.gas_blocks.specs.Inner.Tally.{plus_cell_of}
use Rattle.gas_blocks.specs.declared.blocks.Block.{Block}
use Rattle.gas_blocks.proofs.Tallies.{block_from, block_from-more, block_from-whole, fold-same, HasRoom-none, HasRoom-le}
use Rattle.gas_blocks.proofs.blocks.Block.of.Goals as goal

pub loop-y-init : goal.loop-y-init
loop-y-init g c = record {
  cells = search rules;
  room = HasRoom-le _ 0 _ (omega arith) (HasRoom-none c.args.col c.args.row);
}

pub plus_cells-block-requires-clause-room : goal.plus_cells-block-requires-clause-room
plus_cells-block-requires-clause-room g c =
    let rows : ℕ = c.loop-y.y - c.args.row * c.args.height in
    let few : rows < MOST_SIDE = omega (arith, c.min-2.ensures) in
    HasRoom-le _ (rows * MOST_SIDE) _ (omega (arith, few)) c.loop-y.invariant.room

pub loop-y-preserved : goal.loop-y-preserved
loop-y-preserved g c =
    let gas = g.G.Gas.rules in
    let lattice = g.R.Rows.lattice c.args.rows.now in
    let y : ℕ = c.loop-y.y in
    let left : ℕ = c.args.col * c.args.width in
    let top : ℕ = c.args.row * c.args.height in
    let wide : c.width.result ≡ lattice.channel.width = c.width.ensures.value ∙ c.size-size.ensures.width in
    let long : c.min.result ≡ min c.args.width (lattice.channel.width - left) = c.min.ensures ∙ ap (λ n. min c.args.width (n - left)) wide in
    let each : length c.solid.result.now ≡ words_in lattice.channel.width = c.solid.ensures.long in
    let within : left + c.min.result ≤ lattice.channel.width = omega (arith, long, c.requires.left) in
    let added = c.plus_cells-block.ensures.cells
    ∙ ap₂ (λ (b : Block) (n : ℕ). fold (plus_cell_of gas (bit c.solid.result.now) (state c.states.result.now (length c.solid.result.now) gas.dirs)) b (range_with_len left n))
    c.loop-y.invariant.cells (let e : left + c.min.result - left ≡ c.min.result = omega arith in e)
    ∙ fold-same gas (bit c.solid.result.now) (λ x. is_solid lattice.channel x y) (state c.states.result.now (length c.solid.result.now) gas.dirs) (λ x. cell lattice.rows x y) _ left c.min.result
    (λ x lt. c.solid.ensures.cells x (omega (arith, within)))
    (λ x lt. ap (λ n. state c.states.result.now n gas.dirs x) each ∙ c.states.ensures.cells x (omega (arith, within))) in
    let one : y - top + 1 ≡ y + 1 - top = omega arith in
    record {
      cells = subst (λ (n : ℕ). c.plus_cells-block.result ≡ block_from gas lattice c.args.width c.args.row top n c.args.col) one
          (block_from-more gas lattice c.args.width c.args.row top (y - top) y c.args.col c.min.result c.plus_cells-block.result c.requires.some_columns c.requires.left long (omega arith) added);
      room = HasRoom-le _ _ _ (omega arith) (c.plus_cells-block.ensures.room _ c.loop-y.invariant.room);
    }

pub returns-clause-block : goal.returns-clause-block
returns-clause-block g c =
    let lattice = g.R.Rows.lattice c.args.rows.now in
    let high : c.height.result ≡ lattice.channel.height = c.height.ensures.value ∙ c.size-size.ensures.height in
    let long : c.loop-y.y - c.args.row * c.args.height ≡ min c.args.height (lattice.channel.height - c.args.row * c.args.height) = omega (arith, c.min-2.ensures, high) in
    c.loop-y.invariant.cells ∙ block_from-whole g.G.Gas.rules lattice c.args.width c.args.height c.args.row _ c.args.col c.requires.some_rows c.requires.top long

pub returns-clause-few_fluid : goal.returns-clause-few_fluid
returns-clause-few_fluid g c =
    let few : c.loop-y.y - c.args.row * c.args.height ≤ MOST_SIDE = omega (arith, c.min-2.ensures, c.height.ensures.value, c.height.ensures.within.few_rows) in
    omega (arith, few, c.loop-y.invariant.room.fluid)

pub returns-clause-few_particles : goal.returns-clause-few_particles
returns-clause-few_particles g c =
    let few : c.loop-y.y - c.args.row * c.args.height ≤ MOST_SIDE = omega (arith, c.min-2.ensures, c.height.ensures.value, c.height.ensures.within.few_rows) in
    omega (arith, few, c.loop-y.invariant.room.particles)
