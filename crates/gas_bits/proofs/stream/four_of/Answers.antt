use Rattle.gas_bits.proofs.Fours.{four_read}
use Rattle.gas_bits.proofs.stream.four_of.Goals as goal

pub returns : goal.returns
returns c = λ l hl. four_read c.args.words.now c.args.j l c.requires.within hl
