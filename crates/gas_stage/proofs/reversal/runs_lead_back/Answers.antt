use Rattle.std.proofs.Common.{true, false, ap, ◌∙◌}
use Rattle.gas_geom.specs.Lattice.{generation}
use Rattle.gas_geom.specs.Backwards.{reversed}
use Rattle.gas_geom.proofs.Reversals.{run-back}
use Rattle.gas_rows.specs.Chirality.{chirality_bit}
use Rattle.gas_stage.proofs.Ignoring.{generation-ignoring, reversed-ignoring}
use Rattle.gas_stage.proofs.reversal.runs_lead_back.Goals as goal

pub returns : goal.returns
returns g c =
    let gas = g.G.Gas.rules in
    let back = run-back gas g.met.G.Gas.laws in
    let symmetry = g.met.G.Gas.symmetry in
    record {
      left = λ lattice first later n is. back lattice.channel g.G.Gas.turn g.G.Gas.mirror symmetry true first later n lattice.rows is;
      right = λ lattice first later n is. back lattice.channel g.G.Gas.turn g.G.Gas.mirror symmetry false first later n lattice.rows is;
      any = λ unused lattice there home first later n is.
          let channel = lattice.channel in
          let ignores = g.met.G.Gas.ignores unused in
          let alike = generation-ignoring gas ignores channel in
          let before = generation gas channel (chirality_bit there channel.width) first lattice.rows n in
          ap (reversed gas channel true) (alike (chirality_bit home channel.width) (λ _ _ _. false) later (reversed gas channel true before) n
          ∙ ap (λ rows. generation gas channel (λ _ _ _. false) later (reversed gas channel true rows) n)
          (alike (chirality_bit there channel.width) (λ _ _ _. true) first lattice.rows n))
          ∙ reversed-ignoring gas ignores channel true false _
          ∙ back channel g.G.Gas.turn g.G.Gas.mirror symmetry true first later n lattice.rows is;
    }
