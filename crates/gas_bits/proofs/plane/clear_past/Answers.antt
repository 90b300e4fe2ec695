use Rattle.std.proofs.Common.{arith}
use Rattle.std.proofs.lemmas.Bool.Decides.{nat_tests}
use Rattle.gas_bits.proofs.Words.{bit-set, bit-is, bit-past}
use Rattle.gas_bits.proofs.plane.clear_past.Goals as goal

pub returns : goal.returns
returns c = record { bits = λ x. grind (arith, nat_tests, bit-set, bit-is, bit-past, c.clear_above.ensures) }
