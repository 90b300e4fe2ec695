use Rattle.std.proofs.Common.{◌≡◌, ◌<◌, ◌≤◌, ◌*◌, ℕ, false, if◌then◌else◌, length, ap, ◌∙◌, sym, subst, arith}
use Rattle.std.proofs.lemmas.List.{with_items_is}
use Rattle.std.proofs.lemmas.List.FromFn.{get_or-map-range_with_len, length-map-range_with_len}
use Rattle.gas_geom.specs.Lattice.{streamed}
use Rattle.gas_geom.specs.Channel.{is_solid}
use Rattle.gas_bits.specs.Words.{words_in, bit}
use Rattle.gas_bits.specs.Planes.{has, state}
use Rattle.gas_rows.specs.Streaming.{advanced}
use Rattle.gas_rows.proofs.Cells.{width_of, cells-from}
use Rattle.gas_rows.proofs.Rows.{planes-other}
use Rattle.gas_rows.proofs.row.Row.advance.Given.{Over}
use Rattle.gas_rows.proofs.row.Row.advance.Goals.{After-self-1}
use Rattle.gas_rows.proofs.row.Row.advance.Goals as goal

same : (g : Over) (c : After-self-1 g) → c.args.neighbourhood.now.width ≡ c.self.inside.width
same g c = c.requires.wide ∙ width_of g.G.Gas.rules.dirs c.self.inside.width c.self.inside.words.items c.args.self.now c.self.view_is

pub invariant_of-self : goal.invariant_of-self
invariant_of-self g c =
    rw (with_items_is c.self.inside.words c.advance.new.out (c.advance.auto.out ∙ c.deref_mut.ensures.len))
    (planes-other g.G.Gas.rules.dirs c.self.inside.width c.self.inside.words.items c.args.self.now c.self.invariant c.self.view_is c.advance.new.out
    (c.advance.auto.out ∙ ap length c.deref_mut.ensures.value)
    (subst (λ (w : ℕ). (i x : ℕ) → i < g.G.Gas.rules.dirs → w ≤ x → x < 64 * words_in w → has c.advance.new.out (words_in w) i x ≡ false) (same g c) c.advance.ensures.clear))

pub returns-clause-advanced : goal.returns-clause-advanced
returns-clause-advanced g c = λ ch at about.
    let gas = g.G.Gas.rules in
    let width : ℕ = c.self.inside.width in
    let new = c.advance.new.out in
    let n = c.args.neighbourhood.now in
    let wide : ch.width ≡ width = sym about.wide ∙ same g c in
    rw (with_items_is c.self.inside.words new (c.advance.auto.out ∙ c.deref_mut.ensures.len))
    (cells-from gas.dirs width new _ (length-map-range_with_len _ 0 ch.width ∙ wide) (λ x lt.
    let inside : x < ch.width = omega (arith, lt, wide) in
    subst (λ (w : ℕ). state new (words_in w) gas.dirs x ≡ advanced gas ch c.args.collides (λ u v. bit c.words.result.now u) at x n.y) (same g c) (c.advance.ensures.advanced ch at about x inside)
    ∙ ap (λ r. if c.args.collides then (if is_solid ch x n.y then 0 else gas.collide (streamed gas ch at x n.y) r) else streamed gas ch at x n.y) (c.words.ensures.bits x)
    ∙ sym (get_or-map-range_with_len _ 0 ch.width x x 0 inside (omega arith))))
