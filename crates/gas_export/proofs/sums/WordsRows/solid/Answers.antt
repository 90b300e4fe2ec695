use Rattle.std.proofs.Common.{false, sym, ap, ◌∙◌}
use Rattle.gas_bits.specs.Words.{bit}
use Rattle.gas_layout.proofs.Grids.{value-rows_of}
use Rattle.gas_export.specs.Planes.{solid_at}
use Rattle.gas_export.proofs.sums.WordsRows.solid.Goals as goal

pub returns-clause-cells : goal.returns-clause-cells
returns-clause-cells g c = λ x lt.
    let self = c.args.self.now in
    ap (λ ws. bit ws x) c.solid_at.ensures.part ∙ sym (value-rows_of self.size.width self.size.height (solid_at self.size.width self.solid.now) x c.args.y false lt c.requires.row)
