use Rattle.gas_geom.proofs.Holds.{holds-or}
use Rattle.gas_geom.proofs.word.U64Word.or.Goals as goal

pub returns : goal.returns
returns c = record { bits = λ b _. holds-or c.args.self c.args.other b }
