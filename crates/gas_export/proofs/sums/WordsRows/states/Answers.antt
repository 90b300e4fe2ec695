use Rattle.std.proofs.Common.{sym, ap, ◌∙◌}
use Rattle.gas_bits.specs.Words.{words_in}
use Rattle.gas_bits.specs.Planes.{state}
use Rattle.gas_layout.proofs.Grids.{value-rows_of}
use Rattle.gas_export.specs.Planes.{state_at}
use Rattle.gas_export.proofs.sums.WordsRows.states.Goals as goal

pub returns-clause-cells : goal.returns-clause-cells
returns-clause-cells g c = λ x lt.
    let dirs = g.G.Gas.rules.dirs in
    let self = c.args.self.now in
    ap (λ ws. state ws (words_in self.size.width) dirs x) c.states_at.ensures.part
    ∙ sym (value-rows_of self.size.width self.size.height (state_at dirs self.size.width self.states.now) x c.args.y 0 lt c.requires.row)
