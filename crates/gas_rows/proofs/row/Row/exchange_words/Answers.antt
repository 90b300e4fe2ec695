use Rattle.std.proofs.Common.{◌*◌, vec_len, ap, ap₂, ◌∙◌, sym, subst}
use Rattle.std.proofs.lemmas.List.{with_items_is}
use Rattle.gas_bits.specs.Words.{words_in}
use Rattle.gas_rows.specs.Planes.{AreWordsOf, cells_of}
use Rattle.gas_rows.proofs.Rows.{AreOf, wide, words_of, row-loaded}
use Rattle.gas_rows.proofs.row.Row.exchange_words.Given.{Over}
use Rattle.gas_rows.proofs.row.Row.exchange_words.Goals.{After-self-1}
use Rattle.gas_rows.proofs.row.Row.exchange_words.Goals as goal

settled : (g : Over) (c : After-self-1 g) →
    AreOf g.G.Gas.rules.dirs c.self.inside.width c.clear_planes_past.new.words (cells_of g.G.Gas.rules.dirs c.self.inside.width c.deref_mut.result.now)
settled g c =
    let dirs = g.G.Gas.rules.dirs in
    let wide = wide dirs c.self.inside.width c.self.inside.words.items c.args.self.now c.self.invariant c.self.view_is in
    row-loaded dirs c.self.inside.width c.deref_mut.result.now c.clear_planes_past.new.words c.directions.result
    c.directions.ensures.value c.self.invariant.some_cells c.self.invariant.few_cells
    (c.clear_planes_past.auto.words ∙ c.deref_mut.ensures.len ∙ ap vec_len c.swap.ensures.x_after ∙ c.requires.long ∙ ap (λ w. dirs * words_in w) wide)
    c.clear_planes_past.ensures.cleared

pub invariant_of-self : goal.invariant_of-self
invariant_of-self g c = rw (with_items_is c.swap.new.x c.clear_planes_past.new.words (c.clear_planes_past.auto.words ∙ c.deref_mut.ensures.len)) (settled g c).planes

pub returns-clause-cells : goal.returns-clause-cells
returns-clause-cells g c =
    let dirs = g.G.Gas.rules.dirs in
    rw (with_items_is c.swap.new.x c.clear_planes_past.new.words (c.clear_planes_past.auto.words ∙ c.deref_mut.ensures.len))
    ((settled g c).cells ∙ ap₂ (cells_of dirs)
    (sym (wide dirs c.self.inside.width c.self.inside.words.items c.args.self.now c.self.invariant c.self.view_is))
    (c.deref_mut.ensures.value ∙ ap (λ v. v.items) c.swap.ensures.x_after))

pub returns-clause-words : goal.returns-clause-words
returns-clause-words g c =
    subst (λ v. AreWordsOf g.G.Gas.rules.dirs c.args.self.now v.items) (sym c.swap.ensures.y_after)
    (words_of g.G.Gas.rules.dirs c.self.inside.width c.self.inside.words.items c.args.self.now c.self.invariant c.self.view_is)
