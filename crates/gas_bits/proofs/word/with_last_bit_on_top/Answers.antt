use Rattle.gas_bits.proofs.ShiftedBits.{holds-to_top}
use Rattle.gas_bits.proofs.word.with_last_bit_on_top.Goals as goal

pub returns : goal.returns
returns c = holds-to_top c.args.word c.args.last c.requires
