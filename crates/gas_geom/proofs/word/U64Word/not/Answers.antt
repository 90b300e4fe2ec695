use Rattle.gas_geom.proofs.Holds.{holds-not}
use Rattle.gas_geom.proofs.word.U64Word.not.Goals as goal

pub returns : goal.returns
returns c = record { bits = λ b lt. holds-not c.args.self b c.ranges.self.fits lt }
