use Rattle.std.proofs.Common.{◌*◌, ap₂, ◌∙◌, sym}
use Rattle.gas_rows.proofs.Cells.{cells-blank, IsClear-blank}
use Rattle.gas_rows.proofs.row.Row.blank.Goals as goal

pub invariant_of-result : goal.invariant_of-result
invariant_of-result g c = record {
  some_cells = c.requires.some_cells;
  few_cells = c.requires.few_cells;
  long = sym c.in_ok-zeros_apart.field-0.ok.0 ∙ c.in_ok-zeros_apart.ensures.long ∙ ap₂ (λ a b. a * b) c.directions.ensures.value c.words_for.ensures.value;
  clear = IsClear-blank g.G.Gas.rules.dirs c.args.width _ c.in_ok-zeros_apart.field-0.items c.in_ok-zeros_apart.ensures.zeros;
}

pub returns : goal.returns
returns g c = record {
  value = cells-blank g.G.Gas.rules.dirs c.args.width _ c.in_ok-zeros_apart.field-0.items c.in_ok-zeros_apart.ensures.zeros;
}
