use Rattle.std.proofs.Common.{◌≡◌, ◌/◌, ◌<◌, ◌==◌, ℕ, if◌then◌else◌, length, set, ap, ◌∙◌, subst}
use Rattle.std.proofs.lemmas.List.{with_items_is}
use Rattle.gas_geom.specs.Gas.{holds}
use Rattle.gas_bits.specs.Planes.{has}
use Rattle.gas_rows.proofs.Rows.{AreOf, row-written}
use Rattle.gas_rows.proofs.row.Row.set.Given.{Over}
use Rattle.gas_rows.proofs.row.Row.set.Goals.{After-self-1}
use Rattle.gas_rows.proofs.row.Row.set.Goals as goal

settled : (g : Over) (c : After-self-1 g) → AreOf g.G.Gas.rules.dirs c.self.inside.width c.write_cell.new.words (set c.args.self.now c.args.x c.args.state)
settled g c =
    row-written g.G.Gas.rules.dirs c.self.inside.width c.self.inside.words.items c.args.self.now c.self.invariant c.self.view_is
    c.write_cell.new.words c.words_for-words_each.result c.directions.result c.args.x c.args.state c.words_for-words_each.ensures.value c.directions.ensures.value
    (c.write_cell.auto.words ∙ ap length c.deref_mut.ensures.value) c.requires.within c.requires.state
    (subst (λ ws. (i y : ℕ) → i < c.directions.result → y / 64 < c.words_for-words_each.result →
    has c.write_cell.new.words c.words_for-words_each.result i y ≡ (if y == c.args.x then holds c.args.state i else has ws c.words_for-words_each.result i y))
    c.deref_mut.ensures.value c.write_cell.ensures.written)

pub invariant_of-self : goal.invariant_of-self
invariant_of-self g c = rw (with_items_is c.self.inside.words c.write_cell.new.words (c.write_cell.auto.words ∙ c.deref_mut.ensures.len)) (settled g c).planes

pub returns : goal.returns
returns g c = record {
  written = rw (with_items_is c.self.inside.words c.write_cell.new.words (c.write_cell.auto.words ∙ c.deref_mut.ensures.len)) (settled g c).cells;
}
