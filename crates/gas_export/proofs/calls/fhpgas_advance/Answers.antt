use Rattle.std.proofs.Common.{◌≡◌, ◌+◌, ◌%◌, ℕ, ap, ◌∙◌, arith}
use Rattle.std.proofs.Math.Path.{fun_ext}
use Rattle.std.proofs.lemmas.Bool.Decides.{nat_tests}
use Rattle.gas_geom.specs.FhpRest.{fhp_rest}
use Rattle.gas_geom.specs.Size.{SizeModel}
use Rattle.gas_geom.specs.Gas.{Rules}
use Rattle.gas_geom.specs.Lattice.{LatticeModel, cell, generation}
use Rattle.gas_geom.proofs.Cuts.{generation-alike}
use Rattle.gas_rows.specs.Chirality.{chirality_bit}
use Rattle.gas_rows.specs.declared.chirality.Chirality.{Chirality}
use Rattle.gas_export.specs.Part.{part_bit}
use Rattle.gas_export.specs.Planes.{gas_numbered, chirality_numbered, lattice_in}
use Rattle.gas_export.proofs.calls.fhpgas_advance.Goals.{in-0, in-1, in_default-gas}
use Rattle.gas_export.proofs.calls.fhpgas_advance.Goals as goal

-- the bits of a part that is the whole
bits_of_whole : (chi : Chirality) (w : ℕ) → part_bit chi w 0 ≡ chirality_bit chi w
bits_of_whole chi w = fun_ext (λ g. fun_ext (λ x. fun_ext (λ y. let row : 0 + y ≡ y = omega arith in ap (chirality_bit chi w g x) row)))

pub returns-clause-done : goal.returns-clause-done
returns-clause-done c = λ zero.
    let ew = ap (λ (s : SizeModel). s.width) c.in-Some.ensures.made in
    let eh = ap (λ (s : SizeModel). s.height) c.in-Some.ensures.made in
    rw (← ew, ← eh, ← c.chirality_of.ensures.value) (elim c.match-gas.branch [
      | in-0 w ↦ rw (w.states-is, ap gas_numbered w.in-0.is) w.advance.ensures.done
      | in-1 w ↦ rw (w.states-is, ap gas_numbered w.in-1.is) w.advance-in-1.ensures.done
      | in_default-gas w ↦ let rest : gas_numbered c.args.gas ≡ fhp_rest = grind (arith, nat_tests) in rw (w.states-is, rest) w.advance-in_default-gas.ensures.done
    ])

pub returns-clause-whole : goal.returns-clause-whole
returns-clause-whole c = λ zero er. rw (er, bits_of_whole (chirality_numbered c.args.chirality c.args.seed) c.args.width) at (returns-clause-done c zero)

pub returns-clause-part : goal.returns-clause-part
returns-clause-part c = λ zero whole x y is_part far.
    let gas : Rules = gas_numbered c.args.gas in
    let chi : Chirality = chirality_numbered c.args.chirality c.args.seed in
    let part : LatticeModel = lattice_in gas c.args.width c.args.height c.args.solid.now c.args.states.now in
    let even : c.args.first_row % 2 ≡ 0 = omega arith in
    ap (λ (l : LatticeModel). cell l.rows x y) (returns-clause-done c zero)
    ∙ ap (λ w. cell (generation gas part.channel (part_bit chi w c.args.first_row) c.args.first part.rows c.args.generations) x y) is_part.wide
    ∙ generation-alike gas c.args.first_row part whole (chirality_bit chi whole.channel.width) c.args.first c.args.generations x y even is_part far
