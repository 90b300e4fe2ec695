use Rattle.std.proofs.Common.{◌≡◌, ◌∙◌, sym, ap, ap₂, ℕ, ◌+◌, ◌*◌, ◌<◌, ◌-◌, [], min, false, slice_index_or, arith}
use Rattle.std.specs.List.{slice_index}
use Rattle.gas_geom.specs.Gas.{holds}
use Rattle.gas_geom.specs.Channel.{ChannelModel}
use Rattle.gas_cells.specs.Cells.{cell_text}
use Rattle.gas_cells.proofs.Pairs.{row_cells-part}
use Rattle.gas_cells.proofs.cells.row_part.Goals as goal

pub returns : goal.returns
returns g c = record {
  text =
      let l = c.args.lattice.now in
      let y = c.args.y in
      let a : ℕ = 64 * c.args.j in
      let cells : ℕ = c.min.result in
      let solid = c.mask-solid.ensures.row ∙ ap (λ (ch : ChannelModel). slice_index_or ch.solid y []) c.channel.ensures.channel in
      let wide = c.row-row.ensures.wide in
      let inside : a < l.channel.width = omega (arith, c.requires.part) in
      let few : cells ≡ min (l.channel.width - a) 64 = omega (arith, c.min.ensures, c.width.ensures.value, wide) in
      c.cell_pairs.ensures cells (omega (arith, few))
      ∙ sym (row_cells-part l.channel l.rows y a (128 * c.args.j) cells (λ b. cell_text (holds c.word.result b) (slice_index c.states64.result b))
      (omega (arith, inside)) (omega arith) few
      (λ b h. ap₂ cell_text
      (c.word.ensures.bits b (omega (arith, h, few)) ∙ ap (λ m. slice_index_or m (a + b) false) solid)
      (c.states64.ensures.states b (omega (arith, h, few)) ∙ ap (λ r. slice_index r (a + b)) c.row-row.ensures.row)));
}
