use Rattle.std.proofs.Common.{inl, inr, ap, sym, ◌∙◌, arith}
use Rattle.std.proofs.lemmas.Bool.{cases_eq}
use Rattle.gas_bits.specs.Words.{words_in, bit}
use Rattle.gas_bits.proofs.Words.{bit-all_zero}
use Rattle.gas_export.specs.Planes.{row_words}
use Rattle.gas_export.proofs.step.Channel.fluid_to.Goals as goal

pub returns-then-are_zero-clause-fluid : goal.returns-then-are_zero-clause-fluid
returns-then-are_zero-clause-fluid c = (
  omega (arith, c.requires.above.0),
  λ k x lt le. elim (cases_eq k c.args.y) [
    | inl e ↦ ap (λ j. bit (row_words (words_in c.args.self.now.size.width) c.args.self.now.solid.now j) x) e
        ∙ ap (λ ws. bit ws x) (sym c.solid_at.ensures.part) ∙ bit-all_zero c.solid_at.result.now (c.are_zero.ensures.zero c.if-are_zero.true) x
    | inr ne ↦ c.requires.above.1 k x (omega (arith, lt, ne)) (omega (arith, le))
  ],
)
