use Rattle.std.proofs.Common.{arith}
use Rattle.std.proofs.lemmas.Simd.{Each1-get_or}
use Rattle.gas_bits.proofs.Fours.{four-east}
use Rattle.gas_bits.proofs.stream.four_from_east.Goals as goal

pub returns : goal.returns
returns c = λ l hl b hb.
    four-east l hl c.args.here c.args.after b c.fits-here.0 c.fits-after.0
    (Each1-get_or _ c.args.here l 0 (omega (arith, hl, c.fits-here.0)) c.fits-here.1).fits hb
