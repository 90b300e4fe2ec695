use Rattle.std.proofs.Common.{◌<◌, ◌^◌, ap, ap₂, ◌∙◌, sym, subst}
use Rattle.gas_bits.specs.Words.{words_in}
use Rattle.gas_bits.specs.Planes.{state}
use Rattle.gas_rows.proofs.Rows.{read, read-lt}
use Rattle.gas_rows.proofs.row.Row.get.Goals as goal

pub returns-clause-value : goal.returns-clause-value
returns-clause-value g c =
    c.read_cell.ensures.value
    ∙ ap₂ (λ n d. state c.deref.result.now n d c.args.x) c.words_for.ensures.value c.directions.ensures.value
    ∙ ap (λ ws. state ws (words_in c.self.inside.width) g.G.Gas.rules.dirs c.args.x) c.deref.ensures.value
    ∙ read g.G.Gas.rules.dirs c.self.inside.width c.self.inside.words.items c.args.self.now c.self.invariant c.self.view_is c.args.x c.requires.within

pub returns-clause-state : goal.returns-clause-state
returns-clause-state g c =
    subst (λ s. s < 2 ^ g.G.Gas.rules.dirs) (sym (returns-clause-value g c))
    (read-lt g.G.Gas.rules.dirs c.self.inside.width c.self.inside.words.items c.args.self.now c.self.invariant c.self.view_is c.args.x c.requires.within)
