use Rattle.gas_geom.proofs.Cuts.{generation-alike}
use Rattle.gas_geom.proofs.laws.a_part_is_the_whole.Goals as goal

pub returns : goal.returns
returns g c = record { cells = generation-alike g.G.Gas.rules }
