use Rattle.gas_geom.proofs.Holds.{holds-xor}
use Rattle.gas_geom.proofs.word.U64Word.xor.Goals as goal

pub returns : goal.returns
returns c = record { bits = λ b _. holds-xor c.args.self c.args.other b }
