use Rattle.std.proofs.Common.{◌/◌, ◌%◌, Bool, false, List, get_or, ap, ◌∙◌, sym}
use Rattle.gas_geom.specs.Gas.{holds}
use Rattle.gas_rows.proofs.Masks.{word-within, bit-cells}
use Rattle.gas_bits.proofs.Words.{read_at, bit-is}
use Rattle.gas_rows.proofs.mask.Mask.get.Goals as goal

pub returns : goal.returns
returns c = record {
  value =
      let words = c.self.inside.words.items in
      let x = c.args.x in
      let within = word-within c.self.inside.width words c.args.self.now c.self.invariant c.self.view_is x c.requires.within in
      c.has_bit.ensures.value
      ∙ ap (λ w. holds w (x % 64)) (read_at words (x / 64) c.index.result.now within c.index.ensures)
      ∙ sym (bit-is words x) ∙ bit-cells c.self.inside.width words c.self.invariant x
      ∙ ap (λ (cells : List Bool). get_or cells x false) c.self.view_is;
}
