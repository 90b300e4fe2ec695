use Rattle.gas_geom.proofs.Holds.{holds-and}
use Rattle.gas_geom.proofs.word.U64Word.and.Goals as goal

pub returns : goal.returns
returns c = record { bits = λ b _. holds-and c.args.self c.args.other b }
