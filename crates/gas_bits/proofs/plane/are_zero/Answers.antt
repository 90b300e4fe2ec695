use Rattle.std.proofs.Common.{◌≡◌, inl, inr, get_or, arith, ap, ◌∙◌}
use Rattle.std.proofs.lemmas.Bool.{cases_eq}
use Rattle.std.proofs.lemmas.Bool.Decides.{nat_tests}
use Rattle.std.proofs.lemmas.Grind.{get_or_default_zero}
use Rattle.gas_bits.proofs.Words.{or-zero}
use Rattle.gas_bits.proofs.plane.are_zero.Goals as goal

pub loop-word-preserved : goal.loop-word-preserved
loop-word-preserved c none k h =
    let both = or-zero c.loop-word.any (get_or c.args.words.now c.loop-word.word-index 0) none in
    elim (cases_eq k c.loop-word.word-index) [
      | inl e ↦ ap (λ i. get_or c.args.words.now i 0) e ∙ both.1
      | inr ne ↦ c.loop-word.invariant both.0 k (omega (arith, h, ne))
    ]

pub returns : goal.returns
returns c = record {
  zero = λ yes k d h.
      let none : c.loop-word.any ≡ 0 = grind (arith, nat_tests) in
      get_or_default_zero c.args.words.now k d h ∙ c.loop-word.invariant none k (omega (arith, h, c.loop-word-test.false));
}
