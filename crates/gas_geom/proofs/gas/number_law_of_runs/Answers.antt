use Rattle.gas_geom.proofs.Runs.{count-generation}
use Rattle.gas_geom.proofs.gas.number_law_of_runs.Goals as goal

pub returns : goal.returns
returns g c = record { kept = count-generation g.G.Gas.rules g.met.G.Gas.laws }
