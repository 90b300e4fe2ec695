use Rattle.std.proofs.Common.{◌∙◌, sym}
use Rattle.gas_geom.proofs.Holds.{holds-zero}
use Rattle.gas_bits.proofs.Bits.{holds-ones}
use Rattle.gas_bits.proofs.word.fill_word.Goals as goal

pub returns-then-value : goal.returns-then-value
returns-then-value c b h = holds-ones 64 b h ∙ sym c.if-value.true

pub returns-else-value : goal.returns-else-value
returns-else-value c b h = holds-zero b ∙ sym c.if-value.false
