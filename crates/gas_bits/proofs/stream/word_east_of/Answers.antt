use Rattle.std.proofs.Common.{◌≡◌, ◌<◌, ℕ, ◌+◌, ◌-◌, ◌*◌, ◌%◌, length, subst, ap, ◌∙◌, sym, arith}
use Rattle.std.proofs.Math.Nat.{mod-eq_of_lt}
use Rattle.gas_geom.specs.declared.moves.Move.TheVariants.{On}
use Rattle.gas_bits.specs.Words.{bit}
use Rattle.gas_bits.specs.Inner.Streamed.{AreBeside}
use Rattle.gas_bits.proofs.Shifts.{moved-east}
use Rattle.gas_bits.proofs.Words.{bit-at}
use Rattle.gas_bits.proofs.stream.word_east_of.Goals as goal

pub returns-then-j-words : goal.returns-then-j-words
returns-then-j-words c b hb inside =
    let words = c.args.words.now in
    let width : ℕ = c.args.width in
    let j : ℕ = c.args.j in
    let more : j + 1 < length words = c.if-j-words.true in
    let next : 64 * (j + 1) + 0 ≡ 64 * j + 63 + 1 = omega arith in
    moved-east (bit words) _ _ width j (λ k hk. sym (bit-at words j k hk)) 63 _ (omega arith) (omega (arith, more, c.requires.long))
    (sym (bit-at words (j + 1) 0 (omega arith)) ∙ ap (bit words) (next ∙ sym (mod-eq_of_lt (omega (arith, more, c.requires.long)))))
    c.from_east.ensures b (omega (arith, hb))

pub returns-else-j-words : goal.returns-else-j-words
returns-else-j-words c =
    subst (λ k. AreBeside c.args.words.now c.args.width On k c.east_of_last.result)
    (let e : length c.args.words.now - 1 ≡ c.args.j = omega (arith, c.if-j-words.false, c.requires.within, c.requires.long) in e) c.east_of_last.ensures
