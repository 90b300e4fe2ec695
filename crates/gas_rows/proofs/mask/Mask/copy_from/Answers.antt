use Rattle.std.proofs.Common.{◌≡◌, ℕ, false, List, length, get_or, ap, ◌∙◌, sym, subst}
use Rattle.std.specs.List.{All}
use Rattle.std.proofs.lemmas.List.{with_items_is}
use Rattle.gas_bits.specs.Words.{words_in}
use Rattle.gas_rows.specs.Inner.Mask.{cells, IsMask}
use Rattle.gas_rows.proofs.Masks.{width_of, cells-from, written, cut-list}
use Rattle.gas_bits.proofs.Words.{bit-all_zero}
use Rattle.gas_rows.proofs.mask.Mask.copy_from.Goals as goal

pub invariant_of-self : goal.invariant_of-self
invariant_of-self c =
    let width = c.self.inside.width in
    let old = c.self.inside.words.items in
    let new = c.pack.new.words in
    let cells = c.args.cells.now in
    let same = with_items_is c.self.inside.words new (c.pack.auto.words ∙ c.deref_mut.ensures.len) in
    let wide : length cells ≡ width = c.requires ∙ width_of width old c.args.self.now c.self.view_is in
    let long : length new ≡ words_in width =
    c.pack.auto.words ∙ ap (λ (words : List ℕ). length words) c.deref_mut.ensures.value ∙ c.self.invariant.long in
    subst (IsMask width c.are_zero-self-inside.result) (sym same)
    (written width new (λ x. get_or cells x false) c.are_zero-self-inside.result c.self.invariant.some_cells c.self.invariant.few_cells long
    (λ x. c.pack.ensures.bits x ∙ cut-list width cells wide x)
    (λ e. bit-all_zero new (subst (λ (ws : List ℕ). All (λ w. w ≡ 0) ws) (c.deref.ensures.value ∙ same) (c.are_zero-self-inside.ensures.zero e)))).mask

pub returns : goal.returns
returns c =
    let width = c.self.inside.width in
    let new = c.pack.new.words in
    let same = with_items_is c.self.inside.words new (c.pack.auto.words ∙ c.deref_mut.ensures.len) in
    ap (cells width) same
    ∙ cells-from width new c.args.cells.now (c.requires ∙ width_of width c.self.inside.words.items c.args.self.now c.self.view_is) (λ x h. c.pack.ensures.bits x)
