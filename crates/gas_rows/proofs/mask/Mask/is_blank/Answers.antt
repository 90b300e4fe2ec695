use Rattle.std.proofs.Common.{Bool, false, List, get_or, ap, ◌∙◌, sym}
use Rattle.gas_rows.proofs.Masks.{bit-cells}
use Rattle.gas_rows.proofs.mask.Mask.is_blank.Goals as goal

pub returns : goal.returns
returns c = record {
  blank = λ e x.
      ap (λ (cells : List Bool). get_or cells x false) (sym c.self.view_is)
      ∙ sym (bit-cells c.self.inside.width c.self.inside.words.items c.self.invariant x)
      ∙ c.self.invariant.none e x;
}
