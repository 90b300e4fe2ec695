use Rattle.std.proofs.Common.{◌-◌, ◌*◌, ◌/◌, ◌%◌, ap, ◌∙◌, sym, arith}
use Rattle.gas_geom.specs.Lanes.{lanes_hold}
use Rattle.gas_bits.proofs.Scatters.{lane-bit, lane-none}
use Rattle.gas_rows.proofs.collision.Collision.solid_four.Goals.{then-all_fluid, else-all_fluid}
use Rattle.gas_rows.proofs.collision.Collision.solid_four.Goals as goal

pub returns : goal.returns
returns c = λ y from to.
    let q = c.args.self.now in
    let cell = y - 64 * c.args.j in
    elim c.if-all_fluid.branch [
      | then-all_fluid w ↦ ap (λ four. lanes_hold four cell) w.result-is ∙ lane-none (cell / 64) (cell % 64) (omega arith)
          ∙ sym (q.fluid (c.requires.fluid w.if-all_fluid.true) y)
      | else-all_fluid w ↦ ap (λ four. lanes_hold four cell) w.result-is ∙ lane-bit w.four_at.result q.solid.now c.args.j y from w.four_at.ensures.words to
    ]
