use Rattle.std.proofs.Common.{◌≡◌, ◌+◌, ◌*◌, ◌/◌, ◌%◌, ◌<◌, ◌≤◌, ◌&&◌, ◌==◌, ℕ, Bool, not, if◌then◌else◌, inl, inr, get_or, ap, ap₂, ◌∙◌, sym, subst, arith}
use Rattle.std.proofs.lemmas.Bool.{cases_eq}
use Rattle.std.proofs.lemmas.Bool.Decides.{nat_tests}
use Rattle.gas_geom.specs.Gas.{holds}
use Rattle.gas_geom.specs.Lattice.{streamed}
use Rattle.gas_geom.specs.Planes.{set_at}
use Rattle.gas_geom.proofs.Sets.{set_from}
use Rattle.gas_bits.specs.Words.{words_in, bit}
use Rattle.gas_bits.specs.Planes.{has}
use Rattle.gas_bits.proofs.Scatters.{word-written}
use Rattle.gas_bits.proofs.Words.{bit-at}
use Rattle.gas_rows.specs.Inner.Streaming.{advanced_state}
use Rattle.gas_rows.proofs.Streaming.{streamed-lt}
use Rattle.gas_rows.proofs.stream.Kernel.write_word.Goals.{then-self, else-self}
use Rattle.gas_rows.proofs.stream.Kernel.write_word.Goals as goal

pub returns-clause-advanced : goal.returns-clause-advanced
returns-clause-advanced g c = λ ch at about x h.
    let gas = g.G.Gas.rules in
    let k = c.args.self.now in
    let n : ℕ = words_in k.rows.width in
    let j : ℕ = c.args.j in
    let y : ℕ = k.rows.y in
    let new = c.write_planes_at.new.words in
    let old = c.args.out.now in
    let words = c.if-self.words in
    let b : ℕ = x % 64 in
    let each = c.words_for.ensures.value in
    let arrived = streamed gas ch at x y in
    let written = word-written new old n gas.dirs x words (x / 64 == j) (λ i hi.
    subst (λ (m : ℕ). has new m i x ≡ (if x / 64 == j then holds (get_or words i 0) b && not (holds 0 b) else has old m i x)) each
    (c.write_planes_at.ensures.written i x (omega (arith, hi, c.directions.ensures.value)) (omega (arith, h, about.wide, each)))) in
    let before : x / 64 ≡ j → set_at gas.dirs c.stream_words-arrived.result b ≡ arrived = λ e.
    set_from gas.dirs arrived (λ i. holds (get_or c.stream_words-arrived.result i 0) b) (streamed-lt gas ch at x y) (λ i hi.
    c.stream_words-arrived.ensures ch at about i b hi (omega arith) (omega (arith, e, h))
    ∙ ap (λ z. holds (streamed gas ch at z y) i) (let place : 64 * j + b ≡ x = omega (arith, e) in place)) in
    let after : x / 64 ≡ j → set_at gas.dirs words b ≡ advanced_state gas k.collides arrived (bit k.chi.now x) = λ e.
    elim c.if-self.branch [
      | then-self w ↦ ap (λ p. set_at gas.dirs p b) w.words-is
          ∙ w.collide_planes-words.ensures.cells b (omega arith)
          ∙ ap₂ gas.collide (before e) (sym (bit-at k.chi.now j b (omega arith)) ∙ ap (bit k.chi.now) (let place : 64 * j + b ≡ x = omega (arith, e) in place))
          ∙ sym (ap (λ (b : Bool). advanced_state gas b arrived (bit k.chi.now x)) (w.if-self.true))
      | else-self w ↦ ap (λ p. set_at gas.dirs p b) w.words-is ∙ before e
          ∙ sym (ap (λ (b : Bool). advanced_state gas b arrived (bit k.chi.now x)) (w.if-self.false))
    ] in
    elim (cases_eq (x / 64) j) [
      | inl e ↦ let a = after e in grind (arith, nat_tests)
      | inr ne ↦ grind (arith, nat_tests)
    ]
