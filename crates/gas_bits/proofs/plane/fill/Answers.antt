use Rattle.std.proofs.Common.{arith}
use Rattle.std.proofs.lemmas.Bool.Decides.{nat_tests}
use Rattle.gas_bits.proofs.Words.{bit-replicate}
use Rattle.gas_bits.proofs.plane.fill.Goals as goal

pub returns : goal.returns
returns c = record { bits = λ x. grind (arith, nat_tests, bit-replicate, c.clear_past.ensures.bits x, c.fill_word.ensures, c.fill.ensures.after (λ y e. e)) }
