use Rattle.std.proofs.Common.{Fits, w8, arith}
use Rattle.std.proofs.lemmas.Simd.{Each1-get_or}
use Rattle.gas_bits.proofs.Lanes.{plane-bits}
use Rattle.gas_bits.proofs.states.plane_of.Goals as goal

pub returns : goal.returns
returns c = λ b within.
    let small = (Each1-get_or (Fits w8) c.args.states b 0 (omega (arith, within, c.fits-states.0)) c.fits-states.1).fits in
    plane-bits c.args.states c.args.i b c.fits-states.0 small c.requires within
