use Rattle.gas_geom.proofs.Reversals.{run-back}
use Rattle.gas_geom.proofs.laws.a_run_leads_back.Goals as goal

pub returns : goal.returns
returns g c = record {
  lattice = λ channel chi start later n rows lattice.
      run-back g.G.Gas.rules g.met.G.Gas.laws channel g.G.Gas.turn g.G.Gas.mirror g.met.G.Gas.symmetry chi start later n rows lattice;
}
