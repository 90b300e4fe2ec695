use Rattle.std.proofs.Common.{◌≡◌, ◌≤◌, ◌<◌, ℕ, ◌+◌, ◌-◌, ◌*◌, ◌%◌, get_or, ap, ◌∙◌, sym, arith}
use Rattle.std.proofs.Math.Nat.{mod-eq_of_lt}
use Rattle.std.proofs.lemmas.Bool.Decides.{nat_tests}
use Rattle.gas_geom.specs.Gas.{holds}
use Rattle.gas_geom.specs.Laws.Steps.{whole_turn}
use Rattle.gas_bits.specs.Words.{bit}
use Rattle.gas_bits.proofs.Fours.{each_lane}
use Rattle.gas_bits.proofs.Words.{bit-at}
use Rattle.gas_bits.proofs.stream.four_before.Goals.{then-inner-via-then-inner, then-inner-via-else-inner+then-j-gt0}
use Rattle.gas_bits.proofs.stream.four_before.Goals as goal

pub returns-then-inner : goal.returns-then-inner
returns-then-inner c = λ l hl h.
    let words = c.args.words.now in
    let j : ℕ = c.args.j in
    let width : ℕ = c.args.width in
    let some : 1 ≤ j = elim c.then-inner.branch [
      | then-inner-via-then-inner w ↦ c.requires.inner w.if-inner.true
      | then-inner-via-else-inner+then-j-gt0 w ↦ omega (arith, w.if-j-gt0.true)
    ] in
    ap (λ w. holds w 63) (c.four_of.ensures l hl)
    ∙ sym (bit-at words (j - 1 + l) 63 (omega arith))
    ∙ ap (bit words) (sym (whole_turn width (64 * (j - 1 + l) + 63) (64 * (j + l) + width - 1) (omega (arith, some, h)) (omega (arith, some, h))))

pub returns : goal.returns
returns c =
    let words = c.args.words.now in
    let width : ℕ = c.args.width in
    let n = c.words_for-n.result in
    let start : c.args.j ≡ 0 = (let e = c.if-inner.false in grind (arith, nat_tests)) in
    let read = c.requires.here in
    let next : (l : ℕ) → l < 3 → 64 * (c.args.j + (l + 1)) < width → holds (get_or c.args.here l 0) 63 ≡ bit words ((64 * (c.args.j + (l + 1)) + width - 1) % width) = λ l hl h.
    ap (λ w. holds w 63) (read l (omega (arith, hl)))
    ∙ sym (bit-at words (c.args.j + l) 63 (omega arith))
    ∙ ap (bit words) (sym (whole_turn width (64 * (c.args.j + l) + 63) (64 * (c.args.j + (l + 1)) + width - 1) (omega (arith, start, h)) (omega (arith, start, h)))) in
    let last : 64 * (n - 1) + (width - 1) % 64 ≡ 64 * (c.args.j + 0) + width - 1 = omega (arith, start, c.words_for-n.ensures.value) in
    each_lane _
    (λ h. c.with_last_bit_on_top-last.ensures ∙ sym (bit-at words (n - 1) ((width - 1) % 64) (omega arith))
    ∙ ap (bit words) (last ∙ sym (mod-eq_of_lt (omega arith))))
    (next 0 (omega arith)) (next 1 (omega arith)) (next 2 (omega arith))
