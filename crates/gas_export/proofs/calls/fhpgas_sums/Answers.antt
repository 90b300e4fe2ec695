use Rattle.std.proofs.Common.{◌≡◌, ap, arith}
use Rattle.std.proofs.lemmas.Bool.Decides.{nat_tests}
use Rattle.gas_geom.specs.FhpRest.{fhp_rest}
use Rattle.gas_geom.specs.Size.{SizeModel}
use Rattle.gas_export.specs.Planes.{gas_numbered}
use Rattle.gas_export.proofs.calls.fhpgas_sums.Goals.{in-0, in-1, in_default-gas}
use Rattle.gas_export.proofs.calls.fhpgas_sums.Goals as goal

pub returns-clause-summed : goal.returns-clause-summed
returns-clause-summed c = λ zero.
    let ew = ap (λ (s : SizeModel). s.width) c.in-Some.ensures.made in
    let eh = ap (λ (s : SizeModel). s.height) c.in-Some.ensures.made in
    rw (← ew, ← eh) (elim c.match-gas.branch [
      | in-0 w ↦ rw (w.sums-is, ap gas_numbered w.in-0.is) w.sum_blocks.ensures.sums
      | in-1 w ↦ rw (w.sums-is, ap gas_numbered w.in-1.is) w.sum_blocks-in-1.ensures.sums
      | in_default-gas w ↦ let rest : gas_numbered c.args.gas ≡ fhp_rest = grind (arith, nat_tests) in rw (w.sums-is, rest) w.sum_blocks-in_default-gas.ensures.sums
    ])
