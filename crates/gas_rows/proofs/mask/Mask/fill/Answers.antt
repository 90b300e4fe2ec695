use Rattle.std.proofs.Common.{◌≡◌, ◌&&◌, Bool, true, false, not, refl, length, replicate, ap, ◌∙◌, sym}
use Rattle.std.specs.Prelude.{nat_lt}
use Rattle.std.proofs.lemmas.List.{with_items_is}
use Rattle.gas_rows.proofs.Masks.{IsWritten, written, width_of, replicate-map}
use Rattle.gas_rows.proofs.mask.Mask.fill.Goals.{After-self-2-1}
use Rattle.gas_rows.proofs.mask.Mask.fill.Goals as goal

none : (b value : Bool) → not value ≡ true → (b && value) ≡ false
none true false e = refl
none false false e = refl
none b true e = cc

settled : (c : After-self-2-1) → IsWritten c.self.inside.width (not c.args.value) c.fill.new.words (λ _. c.args.value)
settled c =
    written c.self.inside.width c.fill.new.words (λ _. c.args.value) (not c.args.value) c.self.invariant.some_cells c.self.invariant.few_cells
    (c.fill.auto.words ∙ ap length c.deref_mut.ensures.value ∙ c.self.invariant.long) c.fill.ensures.bits
    (λ e x. c.fill.ensures.bits x ∙ none (nat_lt x c.self.inside.width) c.args.value e)

pub invariant_of-self : goal.invariant_of-self
invariant_of-self c = rw (with_items_is c.self.inside.words c.fill.new.words (c.fill.auto.words ∙ c.deref_mut.ensures.len)) (settled c).mask

pub returns : goal.returns
returns c =
    rw (with_items_is c.self.inside.words c.fill.new.words (c.fill.auto.words ∙ c.deref_mut.ensures.len))
    ((settled c).cells_are ∙ sym (replicate-map (λ _. c.args.value) c.self.inside.width c.args.value (λ _. refl))
    ∙ ap (λ n. replicate n c.args.value) (sym (width_of c.self.inside.width c.self.inside.words.items c.args.self.now c.self.view_is)))
