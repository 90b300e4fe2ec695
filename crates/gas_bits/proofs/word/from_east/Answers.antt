use Rattle.std.proofs.Common.{arith}
use Rattle.gas_bits.proofs.ShiftedBits.{holds-from_east}
use Rattle.gas_bits.proofs.word.from_east.Goals as goal

pub returns : goal.returns
returns c b h = holds-from_east c.args.word c.clear_above.result c.args.after c.args.last b c.requires h (omega arith) c.clear_above.ensures
