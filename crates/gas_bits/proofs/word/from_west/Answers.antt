use Rattle.std.proofs.Common.{arith}
use Rattle.gas_bits.proofs.ShiftedBits.{holds-from_west}
use Rattle.gas_bits.proofs.word.from_west.Goals as goal

pub returns : goal.returns
returns c b h = holds-from_west c.args.before c.args.word b (omega arith) h
