use Rattle.std.proofs.Common.{false, length, map, ap, ◌∙◌, sym}
use Rattle.std.specs.List.{range_with_len}
use Rattle.std.proofs.lemmas.List.{with_items_is}
use Rattle.gas_rows.specs.Key.{drawn_bit}
use Rattle.gas_rows.proofs.Masks.{IsWritten, written, width_of}
use Rattle.gas_rows.proofs.mask.Mask.draw.Goals.{After-self-2-1}
use Rattle.gas_rows.proofs.mask.Mask.draw.Goals as goal

settled : (c : After-self-2-1) → IsWritten c.self.inside.width false c.draw.new.words (drawn_bit c.args.generator.now)
settled c =
    written c.self.inside.width c.draw.new.words (drawn_bit c.args.generator.now) false c.self.invariant.some_cells c.self.invariant.few_cells
    (c.draw.auto.words ∙ ap length c.deref_mut.ensures.value ∙ c.self.invariant.long) c.draw.ensures.bits (λ e. cc)

pub invariant_of-self : goal.invariant_of-self
invariant_of-self c = rw (with_items_is c.self.inside.words c.draw.new.words (c.draw.auto.words ∙ c.deref_mut.ensures.len)) (settled c).mask

pub returns-clause-cells : goal.returns-clause-cells
returns-clause-cells c =
    rw (with_items_is c.self.inside.words c.draw.new.words (c.draw.auto.words ∙ c.deref_mut.ensures.len))
    ((settled c).cells_are ∙ ap (λ n. map (drawn_bit c.args.generator.now) (range_with_len 0 n))
    (sym (width_of c.self.inside.width c.self.inside.words.items c.args.self.now c.self.view_is)))
