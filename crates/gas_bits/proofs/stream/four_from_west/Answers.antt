use Rattle.std.proofs.Common.{arith}
use Rattle.std.proofs.lemmas.Simd.{Each1-get_or}
use Rattle.gas_bits.proofs.Fours.{four-west}
use Rattle.gas_bits.proofs.stream.four_from_west.Goals as goal

pub returns : goal.returns
returns c = λ l hl b hb.
    four-west l hl c.args.before c.args.here b c.fits-before.0 c.fits-here.0
    (Each1-get_or _ c.args.before l 0 (omega (arith, hl, c.fits-before.0)) c.fits-before.1).fits hb
