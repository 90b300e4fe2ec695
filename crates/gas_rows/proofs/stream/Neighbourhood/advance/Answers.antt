use Rattle.std.proofs.Common.{ap, sym, ◌∙◌}
use Rattle.gas_bits.specs.Words.{bit}
use Rattle.gas_rows.specs.Streaming.{advanced}
use Rattle.gas_rows.proofs.Streaming.{fluid-about}
use Rattle.gas_rows.proofs.stream.Neighbourhood.advance.Goals as goal

pub returns-in-true-true-true-clause-advanced : goal.returns-in-true-true-true-clause-advanced
returns-in-true-true-true-clause-advanced g c = λ ch at about x h.
    c.advance_fluid.ensures.advanced ch at (fluid-about _ ch at c.args.self.now c.in-true-true-true.is-0 about) x h
    ∙ ap (λ b. advanced g.G.Gas.rules ch b (λ u v. bit c.args.chi.now u) at x c.args.self.now.y) (sym c.in-true-true-true.is-2)

pub returns-in-true-true-false-clause-advanced : goal.returns-in-true-true-false-clause-advanced
returns-in-true-true-false-clause-advanced g c = λ ch at about x h.
    c.advance_fluid-in-true-true-false.ensures.advanced ch at (fluid-about _ ch at c.args.self.now c.in-true-true-false.is-0 about) x h
    ∙ ap (λ b. advanced g.G.Gas.rules ch b (λ u v. bit c.args.chi.now u) at x c.args.self.now.y) (sym c.in-true-true-false.is-2)

pub returns-in-true-false-true-clause-advanced : goal.returns-in-true-false-true-clause-advanced
returns-in-true-false-true-clause-advanced g c = λ ch at about x h.
    c.advance_fluid-in-true-false-true.ensures.advanced ch at (fluid-about _ ch at c.args.self.now c.in-true-false-true.is-0 about) x h
    ∙ ap (λ b. advanced g.G.Gas.rules ch b (λ u v. bit c.args.chi.now u) at x c.args.self.now.y) (sym c.in-true-false-true.is-2)

pub returns-in-true-false-false-clause-advanced : goal.returns-in-true-false-false-clause-advanced
returns-in-true-false-false-clause-advanced g c = λ ch at about x h.
    c.advance_fluid-in-true-false-false.ensures.advanced ch at (fluid-about _ ch at c.args.self.now c.in-true-false-false.is-0 about) x h
    ∙ ap (λ b. advanced g.G.Gas.rules ch b (λ u v. bit c.args.chi.now u) at x c.args.self.now.y) (sym c.in-true-false-false.is-2)

pub returns-in-false-default-default-clause-advanced : goal.returns-in-false-default-default-clause-advanced
returns-in-false-default-default-clause-advanced g c = λ ch at about x h. c.advance_beside_solid.ensures.advanced ch at about x h
