use Rattle.std.proofs.Common.{arith}
use Rattle.std.proofs.lemmas.Simd.{Each1-get_or}
use Rattle.gas_bits.proofs.Fours.{four-cleared}
use Rattle.gas_bits.proofs.planes.clear_four.Goals as goal

pub returns : goal.returns
returns c = λ l b hl hb.
    four-cleared l hl c.args.four c.args.mask b c.fits-four.0 c.fits-mask.0
    (Each1-get_or _ c.args.mask l 0 (omega (arith, hl, c.fits-mask.0)) c.fits-mask.1).fits hb
