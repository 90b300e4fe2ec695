use Rattle.std.proofs.Common.{arith}
use Rattle.gas_bits.proofs.PlaneWrites.{four_put}
use Rattle.gas_bits.proofs.planes.put_four.Goals as goal

pub returns-else-n-lt4 : goal.returns-else-n-lt4
returns-else-n-lt4 c k h =
    four_put c.args.words.now c.args.four c.args.j k c.fits-four.0 (omega (arith, c.requires.within, c.requires.long, c.if-n-lt4.false)) (omega (arith, h, c.requires.long))
