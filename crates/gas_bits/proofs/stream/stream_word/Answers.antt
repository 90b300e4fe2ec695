use Rattle.std.proofs.Common.{◌+◌, ◌*◌, ap, sym, ◌∙◌, arith}
use Rattle.gas_geom.specs.Gas.{holds}
use Rattle.gas_bits.proofs.Words.{bit-at}
use Rattle.gas_bits.proofs.stream.stream_word.Goals as goal

pub returns : goal.returns
returns c = record {
  streamed = λ b hb inside.
      let q = c.args.incoming.now in
      let arrives = c.word_beside-arriving.ensures b hb inside in
      let blocks = c.word_beside-blocked.ensures b hb inside in
      let opposite = bit-at q.opposite_here.now c.args.j b hb in
      let solid = bit-at q.solid_here.now c.args.j b hb in
      let word = c.bounce.ensures b hb in
      grind arith;
}
