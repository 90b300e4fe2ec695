use Rattle.std.proofs.Common.{◌≡◌, ◌/◌, ◌<◌, ℕ, Bool, false, if◌then◌else◌, List, length, get_or, refl, ap, ◌∙◌, sym, subst}
use Rattle.std.proofs.lemmas.List.{with_items_is}
use Rattle.std.proofs.lemmas.List.FromFn.{fill_by_all}
use Rattle.gas_geom.specs.Lattice.{row_of}
use Rattle.gas_bits.specs.Words.{bit}
use Rattle.gas_bits.specs.Planes.{state}
use Rattle.gas_rows.proofs.Rows.{AreOf, row_of-same}
use Rattle.gas_rows.proofs.Collisions.{row-collided}
use Rattle.gas_rows.proofs.row.Row.empty_solid.Given.{Over}
use Rattle.gas_rows.proofs.row.Row.empty_solid.Goals.{After-self-1}
use Rattle.gas_rows.proofs.row.Row.empty_solid.Goals as goal

Emptied : (new old : List ℕ) (n d : ℕ) (solid : List ℕ) → Type 0
Emptied new old n d solid = (y : ℕ) → y / 64 < n → state new n d y ≡ (if bit solid y then 0 else state old n d y)

settled : (g : Over) (c : After-self-1 g) → AreOf g.G.Gas.rules.dirs c.self.inside.width c.empty_solid.new.words
    (row_of (length c.args.self.now) (λ x. if bit c.words.result.now x then 0 else get_or c.args.self.now x 0))
unfolding Emptied
settled g c =
    let d = g.G.Gas.rules.dirs in
    let new = c.empty_solid.new.words in
    let n = c.words_for-words_each.result in
    row-collided d (λ s _. s) (λ _. refl) c.self.inside.width c.self.inside.words.items c.args.self.now c.self.invariant c.self.view_is
    new n c.words.result.now c.words.result.now c.words_for-words_each.ensures.value (c.empty_solid.auto.words ∙ ap length c.deref_mut.ensures.value)
    (subst (λ e. Emptied new c.self.inside.words.items n e c.words.result.now) c.directions.ensures.value
    (subst (λ ws. Emptied new ws n c.directions.result c.words.result.now) c.deref_mut.ensures.value c.empty_solid.ensures.emptied))

pub invariant_of-self : goal.invariant_of-self
invariant_of-self g c = rw (with_items_is c.self.inside.words c.empty_solid.new.words (c.empty_solid.auto.words ∙ c.deref_mut.ensures.len)) (settled g c).planes

pub returns-then-not-is_blank-clause-emptied : goal.returns-then-not-is_blank-clause-emptied
returns-then-not-is_blank-clause-emptied g c =
    rw (with_items_is c.self.inside.words c.empty_solid.new.words (c.empty_solid.auto.words ∙ c.deref_mut.ensures.len))
    ((settled g c).cells ∙ row_of-same 0 (length c.args.self.now) _ _ (λ x h. ap (λ (s : Bool). if s then 0 else get_or c.args.self.now x 0) (c.words.ensures.bits x)))

pub returns-else-not-is_blank-clause-emptied : goal.returns-else-not-is_blank-clause-emptied
returns-else-not-is_blank-clause-emptied g c =
    fill_by_all (λ x. if get_or c.args.solid.now x false then 0 else get_or c.args.self.now x 0) c.args.self.now (length c.args.self.now) 0 refl
    (λ x h. sym (ap (λ (s : Bool). if s then 0 else get_or c.args.self.now x 0) (c.is_blank.ensures.blank c.if-not-is_blank.false x)))
