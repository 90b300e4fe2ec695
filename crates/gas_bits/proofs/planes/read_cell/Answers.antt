use Rattle.std.proofs.Common.{◌%◌, ◌∙◌, ap}
use Rattle.gas_geom.specs.Gas.{holds}
use Rattle.gas_geom.proofs.Holds.{set_of-same}
use Rattle.gas_bits.specs.Planes.{has, state}
use Rattle.gas_bits.proofs.planes.read_cell.Goals as goal

pub returns : goal.returns
unfolding has state
returns c = record {
  value = c.state_at.ensures ∙ set_of-same c.args.dirs _ _ (λ i h. ap (λ w. holds w (c.args.x % 64)) (c.planes_at-planes.ensures.planes i h));
}
