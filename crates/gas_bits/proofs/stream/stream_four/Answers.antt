use Rattle.std.proofs.Common.{◌≡◌, ◌+◌, ◌*◌, ◌/◌, ◌%◌, ap, sym, ◌∙◌, arith}
use Rattle.gas_geom.specs.Gas.{holds}
use Rattle.gas_bits.proofs.Words.{bit-at}
use Rattle.gas_bits.proofs.stream.stream_four.Goals as goal

pub returns : goal.returns
returns c = record {
  streamed = λ l b hl hb inside.
      let q = c.args.incoming.now in
      let arrives = c.four_beside-arriving.ensures.beside l b hl hb inside in
      let blocks = c.four_beside-blocked.ensures.beside l b hl hb inside in
      let opposite = ap (λ w. holds w b) (c.four_at-opposite.ensures.words l hl) ∙ sym (bit-at q.opposite_here.now (c.args.j + l) b hb) in
      let solid = ap (λ w. holds w b) (c.four_at.ensures.words l hl) ∙ sym (bit-at q.solid_here.now (c.args.j + l) b hb) in
      let cell = 64 * l + b in
      let lane : cell / 64 ≡ l = omega (arith, hb) in
      let place : cell % 64 ≡ b = omega (arith, hb) in
      let word = c.bounce.ensures cell (omega (arith, hl, hb)) in
      grind arith;
}
