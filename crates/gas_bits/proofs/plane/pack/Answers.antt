use Rattle.std.proofs.Common.{arith}
use Rattle.std.proofs.lemmas.Bool.Decides.{nat_tests}
use Rattle.std.proofs.lemmas.List.{places}
use Rattle.gas_bits.proofs.Words.{bit-set, bit-past}
use Rattle.gas_bits.proofs.plane.pack.Goals as goal

pub loop-j-preserved : goal.loop-j-preserved
loop-j-preserved c x h = grind (arith, nat_tests, places, bit-set)

pub returns : goal.returns
returns c = record { bits = λ x. grind (arith, places, bit-past, c.loop-j.invariant x) }
