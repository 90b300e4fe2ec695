use Rattle.std.proofs.Common.{length, ap, ◌∙◌}
use Rattle.std.proofs.lemmas.List.{with_items_is}
use Rattle.gas_rows.proofs.Rows.{AreOf, wide, row-of_states}
use Rattle.gas_rows.proofs.row.Row.copy_from.Given.{Over}
use Rattle.gas_rows.proofs.row.Row.copy_from.Goals.{After-self-1}
use Rattle.gas_rows.proofs.row.Row.copy_from.Goals as goal

settled : (g : Over) (c : After-self-1 g) → AreOf g.G.Gas.rules.dirs c.self.inside.width c.load_states.new.words c.args.states.now
settled g c =
    let wide = wide g.G.Gas.rules.dirs c.self.inside.width c.self.inside.words.items c.args.self.now c.self.invariant c.self.view_is in
    row-of_states g.G.Gas.rules.dirs c.self.inside.width c.load_states.new.words c.args.states.now c.words_for-words_each.result c.directions.result
    c.words_for-words_each.ensures.value c.directions.ensures.value c.self.invariant.some_cells c.self.invariant.few_cells
    (c.load_states.auto.words ∙ ap length c.deref_mut.ensures.value ∙ c.self.invariant.long) (c.requires.wide ∙ wide) c.requires.states c.load_states.ensures.loaded

pub invariant_of-self : goal.invariant_of-self
invariant_of-self g c = rw (with_items_is c.self.inside.words c.load_states.new.words (c.load_states.auto.words ∙ c.deref_mut.ensures.len)) (settled g c).planes

pub returns : goal.returns
returns g c = rw (with_items_is c.self.inside.words c.load_states.new.words (c.load_states.auto.words ∙ c.deref_mut.ensures.len)) (settled g c).cells
