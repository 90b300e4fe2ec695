use Rattle.std.proofs.Common.{refl}
use Rattle.gas_geom.specs.Fhp1.{fhp1}
use Rattle.gas_geom.specs.FhpRest.{fhp_rest}
use Rattle.gas_geom.specs.Laws.Trials.{IsGas-passed}
use Rattle.gas_geom.proofs.Staggered.{rows-kept, rising-kept, falling-kept}
use Rattle.gas_geom.proofs.laws.staggered_momenta_are_kept.Goals as goal

pub returns : goal.returns
returns c =
    let moving = IsGas-passed fhp1 refl in
    let resting = IsGas-passed fhp_rest refl in
    record {
      fhp1_rows = λ channel. rows-kept fhp1 moving channel refl;
      fhp1_rising = λ channel. rising-kept fhp1 moving channel refl;
      fhp1_falling = λ channel. falling-kept fhp1 moving channel refl;
      fhp_rest_rows = λ channel. rows-kept fhp_rest resting channel refl;
      fhp_rest_rising = λ channel. rising-kept fhp_rest resting channel refl;
      fhp_rest_falling = λ channel. falling-kept fhp_rest resting channel refl;
    }
