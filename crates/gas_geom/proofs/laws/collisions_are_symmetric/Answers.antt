use Rattle.std.proofs.Common.{refl}
use Rattle.gas_geom.specs.Fhp1.{fhp1, sixth, hexagon_mirror}
use Rattle.gas_geom.specs.FhpRest.{fhp_rest}
use Rattle.gas_geom.specs.Hpp.{hpp, quarter, square_mirror}
use Rattle.gas_geom.specs.Laws.Trials.{IsSymmetric-passed}
use Rattle.gas_geom.proofs.laws.collisions_are_symmetric.Goals as goal

pub returns : goal.returns
returns c = record {
  fhp1 = IsSymmetric-passed fhp1 sixth hexagon_mirror refl;
  fhp_rest = IsSymmetric-passed fhp_rest sixth hexagon_mirror refl;
  hpp = IsSymmetric-passed hpp quarter square_mirror refl;
}
