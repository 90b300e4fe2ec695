use Rattle.std.proofs.Common.{◌≡◌, sym, ap, ◌∙◌, true, not, is_none}
use Rattle.std.specs.Prelude.{is_some}
use Rattle.gas_cells.specs.Reading.{cell_at}
use Rattle.gas_cells.proofs.Columns.{find-first, find-next, is_none-not}
use Rattle.gas_cells.proofs.reading.bad_column.Goals as goal

pub returns-then-is_none-clause-value : goal.returns-then-is_none-clause-value
returns-then-is_none-clause-value c =
    let k = c.loop-c.c in
    let o = cell_at c.args.states c.args.row.now k in
    let none : is_none o ≡ true = is_none-not o _ (ap is_some (sym c.cell_of.ensures) ∙ c.is_none.ensures) ∙ ap (λ b. not (not b)) c.if-is_none.true in
    sym (find-first (λ c'. is_none (cell_at c.args.states c.args.row.now c')) k _ c.loop-c.invariant none c.loop-c-test.true)

pub loop-c-preserved : goal.loop-c-preserved
loop-c-preserved c =
    let k = c.loop-c.c in
    let o = cell_at c.args.states c.args.row.now k in
    find-next (λ c'. is_none (cell_at c.args.states c.args.row.now c')) k c.loop-c.invariant
    (is_none-not o _ (ap is_some (sym c.cell_of.ensures) ∙ c.is_none.ensures) ∙ ap (λ b. not (not b)) c.if-is_none.false)
