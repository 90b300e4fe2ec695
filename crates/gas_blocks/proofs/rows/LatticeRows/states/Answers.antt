use Rattle.std.proofs.Common.{◌≡◌, ◌*◌, ℕ, get_or, sym, ap, subst, ◌∙◌}
use Rattle.gas_bits.specs.Words.{words_in}
use Rattle.gas_rows.specs.Planes.{cells_of}
use Rattle.gas_rows.proofs.Cells.{get_or-cells}
use Rattle.gas_blocks.proofs.rows.LatticeRows.states.Goals as goal

pub returns-clause-long : goal.returns-clause-long
returns-clause-long g c = c.as_words.ensures.words.long ∙ ap (λ (n : ℕ). g.G.Gas.rules.dirs * words_in n) c.row.ensures.wide

pub returns-clause-cells : goal.returns-clause-cells
returns-clause-cells g c = λ x lt.
    let dirs = g.G.Gas.rules.dirs in
    sym (get_or-cells dirs c.args.self.now.channel.width c.as_words.result.now x lt)
    ∙ ap (λ r. get_or r x 0)
    (subst (λ (n : ℕ). cells_of dirs n c.as_words.result.now ≡ c.row.result.now) c.row.ensures.wide c.as_words.ensures.cells ∙ c.row.ensures.row)
