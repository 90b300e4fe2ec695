use Rattle.gas_geom.proofs.Reversals.{same-before}
use Rattle.gas_geom.proofs.laws.a_generation_is_one_to_one.Goals as goal

pub returns : goal.returns
returns g c = record { lattice = same-before g.G.Gas.rules g.met.G.Gas.laws }
