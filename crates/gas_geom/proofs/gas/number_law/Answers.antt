use Rattle.gas_geom.proofs.Number.{count-next}
use Rattle.gas_geom.proofs.gas.number_law.Goals as goal

pub returns : goal.returns
returns g c = record { kept = count-next g.G.Gas.rules g.met.G.Gas.laws }
