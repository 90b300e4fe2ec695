use Rattle.std.proofs.Common.{◌≡◌, ◌≤◌, ℕ, ◌+◌, ◌-◌, ◌*◌, ◌%◌, length, ap, ◌∙◌, sym, arith}
use Rattle.std.proofs.Math.Nat.{mod-eq_of_lt}
use Rattle.std.proofs.lemmas.Bool.Decides.{nat_tests}
use Rattle.gas_geom.specs.Laws.Steps.{whole_turn}
use Rattle.gas_bits.specs.Words.{bit}
use Rattle.gas_bits.proofs.Words.{bit-at}
use Rattle.gas_bits.proofs.stream.word_before.Goals as goal

pub returns-then-j-eq0 : goal.returns-then-j-eq0
returns-then-j-eq0 c =
    let words = c.args.words.now in
    let width : ℕ = c.args.width in
    let n : ℕ = length words in
    let last : 64 * (n - 1) + (width - 1) % 64 ≡ 64 * c.args.j + width - 1 = omega (arith, c.if-j-eq0.true, c.requires.long) in
    c.with_last_bit_on_top.ensures ∙ sym (bit-at words (n - 1) ((width - 1) % 64) (omega arith))
    ∙ ap (bit words) (last ∙ sym (mod-eq_of_lt (omega (arith, c.if-j-eq0.true))))

pub returns-else-j-eq0 : goal.returns-else-j-eq0
returns-else-j-eq0 c =
    let words = c.args.words.now in
    let width : ℕ = c.args.width in
    let j : ℕ = c.args.j in
    let some : 1 ≤ j = omega (arith, c.if-j-eq0.false) in
    sym (bit-at words (j - 1) 63 (omega arith))
    ∙ ap (bit words) (sym (whole_turn width (64 * (j - 1) + 63) (64 * j + width - 1) (omega (arith, some)) (omega (arith, some))))
