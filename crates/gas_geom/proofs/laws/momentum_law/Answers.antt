use Rattle.gas_geom.proofs.Momenta.{momentum-kept}
use Rattle.gas_geom.proofs.laws.momentum_law.Goals as goal

pub returns : goal.returns
returns g c =
    let gas = g.G.Gas.rules in
    let laws = g.met.G.Gas.laws in
    let symmetry = g.met.G.Gas.symmetry in
    record {
      eastwards = λ channel chi rows lattice.
          momentum-kept gas laws channel chi rows lattice (λ i. (gas.momentum i).0) (λ i h. (symmetry.momentum_turned i h).0)
          (λ s b h t. (laws.collide_keeps_momentum s b h t).0);
      northwards = λ channel chi rows lattice.
          momentum-kept gas laws channel chi rows lattice (λ i. (gas.momentum i).1) (λ i h. (symmetry.momentum_turned i h).1)
          (λ s b h t. (laws.collide_keeps_momentum s b h t).1);
    }
