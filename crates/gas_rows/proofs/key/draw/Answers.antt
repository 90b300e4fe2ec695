use Rattle.std.proofs.Common.{◌∙◌}
use Rattle.gas_bits.proofs.Words.{cut-where}
use Rattle.gas_rows.proofs.key.draw.Goals as goal

pub returns-clause-bits : goal.returns-clause-bits
returns-clause-bits c x =
    c.clear_past.ensures.bits x ∙ cut-where x c.args.width _ _ (λ h. c.draw_words.ensures.bits x h)
