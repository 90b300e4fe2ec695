use Rattle.std.proofs.Common.{◌≡◌, ◌∙◌, ap, is_none, arith, false}
use Rattle.std.specs.Prelude.{is_some}
use Rattle.std.specs.Option.{unwrap_or}
use Rattle.std.proofs.lemmas.Grind.{common_steps}
use Rattle.gas_cells.specs.declared.reading.Cell.{Cell}
use Rattle.gas_cells.specs.Reading.{cell_at, cell_or_empty}
use Rattle.gas_cells.proofs.Columns.{none-next, is_some-not}
use Rattle.gas_cells.proofs.reading.read_row.Goals as goal

pub loop-x-preserved : goal.loop-x-preserved
loop-x-preserved c =
    let states = c.args.states in
    let row = c.args.row.now in
    let x = c.loop-x.x in
    let here : c.unwrap_or-cell.result ≡ cell_or_empty states row x =
    c.unwrap_or-cell.ensures ∙ ap (λ o. unwrap_or o (record { solid = false; state = 0 })) c.cell_of-cell.ensures in
    let solid = ap (λ (cell : Cell). cell.solid) here in
    let state = ap (λ (cell : Cell). cell.state) here in
    record {
      solid = λ k h. grind (arith, common_steps, solid, c.loop-x.invariant.solid k);
      states = λ k h. grind (arith, common_steps, state, c.loop-x.invariant.states k);
      all = none-next (λ c'. is_none (cell_at states row c')) x _ _ c.loop-x.invariant.all
          (c.is_some-are_cells.ensures ∙ ap is_some c.cell_of-cell.ensures ∙ is_some-not (cell_at states row x));
    }
