use Rattle.std.proofs.Common.{◌≡◌, ◌+◌, ◌-◌, ◌*◌, ◌/◌, ◌%◌, ◌<◌, ◌≤◌, ◌&&◌, ℕ, Bool, false, not, if◌then◌else◌, inl, inr, get_or, replicate, ap, ap₂, ◌∙◌, sym, subst, arith}
use Rattle.std.specs.Prelude.{nat_le, nat_lt}
use Rattle.std.proofs.lemmas.Bool.{cases_lt}
use Rattle.std.proofs.lemmas.Bool.Decides.{nat_tests}
use Rattle.gas_geom.specs.Gas.{holds}
use Rattle.gas_geom.specs.Lattice.{streamed}
use Rattle.gas_geom.specs.Lanes.{lanes_hold}
use Rattle.gas_geom.specs.Planes.{set_in}
use Rattle.gas_geom.proofs.Sets.{set_from}
use Rattle.gas_bits.specs.Words.{words_in, bit}
use Rattle.gas_bits.specs.Planes.{has, four_has}
use Rattle.gas_bits.proofs.Scatters.{four-written, lane-bit, lane-none}
use Rattle.gas_rows.specs.Inner.Streaming.{advanced_state}
use Rattle.gas_rows.proofs.Streaming.{streamed-lt}
use Rattle.gas_rows.proofs.stream.Kernel.put_four.Goals.{then-self, else-self}
use Rattle.gas_rows.proofs.stream.Kernel.put_four.Goals as goal

pub returns-clause-advanced : goal.returns-clause-advanced
returns-clause-advanced g c = λ ch at about x h.
    let gas = g.G.Gas.rules in
    let k = c.args.self.now in
    let n : ℕ = words_in k.rows.width in
    let j : ℕ = c.args.j in
    let y : ℕ = k.rows.y in
    let new = c.write_four_at.new.words in
    let old = c.args.out.now in
    let planes = c.if-self.planes in
    let cell : ℕ = x - 64 * j in
    let none : Bool = holds (get_or (replicate 4 0) (cell / 64) 0) (x % 64) in
    let inside : Bool = nat_le (64 * j) x && nat_lt x (64 * j + 256) in
    let each = c.words_for-words_each.ensures.value in
    let arrived = streamed gas ch at x y in
    let written = four-written new old n gas.dirs x (64 * j) planes none inside (λ i hi.
    subst (λ (m : ℕ). has new m i x ≡ (if inside then four_has planes i cell && not none else has old m i x)) each
    (c.write_four_at.ensures.written i x (omega (arith, hi, c.directions-dirs.ensures.value)) (omega (arith, h, about.wide, each)))) in
    let before : 64 * j ≤ x → x < 64 * j + 256 → set_in lanes_hold (replicate 4 0) gas.dirs c.args.arrived cell ≡ arrived = λ from to.
    set_from gas.dirs arrived (λ i. four_has c.args.arrived i cell) (streamed-lt gas ch at x y) (λ i hi.
    c.requires.arrived ch at about i cell hi (omega (arith, from, to)) (omega (arith, from, h))
    ∙ ap (λ z. holds (streamed gas ch at z y) i) (let e : 64 * j + cell ≡ x = omega (arith, from) in e)) in
    let after : 64 * j ≤ x → x < 64 * j + 256 → set_in lanes_hold (replicate 4 0) gas.dirs planes cell ≡ advanced_state gas k.collides arrived (bit k.chi.now x) = λ from to.
    elim c.if-self.branch [
      | then-self w ↦ ap (λ p. set_in lanes_hold (replicate 4 0) gas.dirs p cell) w.planes-is
          ∙ w.collide_planes-planes.ensures.cells cell (omega (arith, from, to))
          ∙ ap₂ gas.collide (before from to) (lane-bit w.four_at.result k.chi.now j x from w.four_at.ensures.words to)
          ∙ sym (ap (λ (b : Bool). advanced_state gas b arrived (bit k.chi.now x)) (w.if-self.true))
      | else-self w ↦ ap (λ p. set_in lanes_hold (replicate 4 0) gas.dirs p cell) w.planes-is ∙ before from to
          ∙ sym (ap (λ (b : Bool). advanced_state gas b arrived (bit k.chi.now x)) (w.if-self.false))
    ] in
    let clear : none ≡ false = lane-none (cell / 64) (x % 64) (omega arith) in
    elim (cases_lt x (64 * j)) [
      | inl low ↦ grind (arith, nat_tests)
      | inr from ↦ elim (cases_lt x (64 * j + 256)) [
        | inl to ↦ let a = after from to in grind (arith, nat_tests)
        | inr past ↦ grind (arith, nat_tests)
      ]
    ]
