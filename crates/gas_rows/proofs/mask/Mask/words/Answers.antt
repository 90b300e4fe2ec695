use Rattle.std.proofs.Common.{ℕ, Bool, false, List, get_or, ap, ◌∙◌}
use Rattle.gas_bits.specs.Words.{bit}
use Rattle.gas_rows.proofs.Masks.{bit-cells}
use Rattle.gas_rows.proofs.mask.Mask.words.Goals as goal

pub returns-clause-bits : goal.returns-clause-bits
returns-clause-bits c x =
    ap (λ (words : List ℕ). bit words x) c.deref.ensures.value
    ∙ bit-cells c.self.inside.width c.self.inside.words.items c.self.invariant x
    ∙ ap (λ (cells : List Bool). get_or cells x false) c.self.view_is
