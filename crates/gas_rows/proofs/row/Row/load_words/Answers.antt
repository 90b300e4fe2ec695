use Rattle.std.proofs.Common.{length, ap, ◌∙◌, sym}
use Rattle.std.proofs.lemmas.List.{with_items_is}
use Rattle.gas_rows.specs.Planes.{cells_of}
use Rattle.gas_rows.proofs.Rows.{AreOf, wide, row-loaded}
use Rattle.gas_rows.proofs.row.Row.load_words.Given.{Over}
use Rattle.gas_rows.proofs.row.Row.load_words.Goals.{After-self-1}
use Rattle.gas_rows.proofs.row.Row.load_words.Goals as goal

settled : (g : Over) (c : After-self-1 g) →
    AreOf g.G.Gas.rules.dirs c.self.inside.width c.load_words.new.words (cells_of g.G.Gas.rules.dirs c.self.inside.width c.args.words.now)
settled g c =
    row-loaded g.G.Gas.rules.dirs c.self.inside.width c.args.words.now c.load_words.new.words c.directions.result
    c.directions.ensures.value c.self.invariant.some_cells c.self.invariant.few_cells
    (c.load_words.auto.words ∙ ap length c.deref_mut.ensures.value ∙ c.self.invariant.long) c.load_words.ensures.loaded

pub invariant_of-self : goal.invariant_of-self
invariant_of-self g c = rw (with_items_is c.self.inside.words c.load_words.new.words (c.load_words.auto.words ∙ c.deref_mut.ensures.len)) (settled g c).planes

pub returns-clause-cells : goal.returns-clause-cells
returns-clause-cells g c =
    rw (with_items_is c.self.inside.words c.load_words.new.words (c.load_words.auto.words ∙ c.deref_mut.ensures.len))
    ((settled g c).cells ∙ ap (λ w. cells_of g.G.Gas.rules.dirs w c.args.words.now)
    (sym (wide g.G.Gas.rules.dirs c.self.inside.width c.self.inside.words.items c.args.self.now c.self.invariant c.self.view_is)))
