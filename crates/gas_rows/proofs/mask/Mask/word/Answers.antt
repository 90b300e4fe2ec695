use Rattle.std.proofs.Common.{◌<◌, ◌+◌, ◌*◌, Bool, false, List, length, get_or, ap, ◌∙◌, sym, arith}
use Rattle.gas_geom.specs.Gas.{holds}
use Rattle.gas_rows.proofs.Masks.{width_of, bit-cells}
use Rattle.gas_bits.proofs.Words.{read_at, bit-at}
use Rattle.gas_rows.proofs.mask.Mask.word.Goals as goal

pub returns : goal.returns
returns c = record {
  bits = λ b h.
      let words = c.self.inside.words.items in
      let j = c.args.j in
      let within : j < length words = omega (arith, c.self.invariant.long, width_of c.self.inside.width words c.args.self.now c.self.view_is) in
      ap (λ w. holds w b) (read_at words j c.index.result.now within c.index.ensures)
      ∙ sym (bit-at words j b h) ∙ bit-cells c.self.inside.width words c.self.invariant (64 * j + b)
      ∙ ap (λ (cells : List Bool). get_or cells (64 * j + b) false) c.self.view_is;
}
