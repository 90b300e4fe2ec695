use Rattle.std.proofs.Common.{◌≡◌, ◌+◌, ◌-◌, ◌*◌, ◌∙◌, ap₂, min, arith}
use Rattle.gas_pipe_model.specs.Plan.{before}
use Rattle.gas_pipe_members.proofs.Shares.{same_passes}
use Rattle.gas_pipe_members.proofs.plan.Span.generations.Goals as goal

pub returns-clause-passes : goal.returns-clause-passes
returns-clause-passes c stages share =
    let plan = c.args.self.now.plan in
    let done = c.args.pass * plan.stages + before plan c.args.number in
    let first : c.args.pass * c.from.result + c.from-2.result ≡ done =
    ap₂ (λ s b. c.args.pass * s + b) (c.from.ensures ∙ c.stages.ensures.value) (c.from-2.ensures ∙ c.before-in_front.ensures.value) in
    let left : c.saturating_sub-left.result ≡ plan.generations - done =
    c.saturating_sub-left.ensures ∙ ap₂ (λ g d. g - d) c.generations-generations.ensures.value first in
    let from : c.args.self.now.first + (c.generations-generations.result - c.saturating_sub-left.result)
    ≡ c.args.self.now.first + (plan.generations - (plan.generations - done)) =
    ap₂ (λ g l. c.args.self.now.first + (g - l)) c.generations-generations.ensures.value left in
    let own : c.before-2.result - c.before-in_front.result ≡ stages = omega (arith, c.before-2.ensures.value, c.before-in_front.ensures.value, share) in
    let computing : c.min-computing.result ≡ min (plan.generations - done) stages =
    c.min-computing.ensures ∙ ap₂ (λ l s. min l s) left (c.from-3.ensures ∙ own) in
    rw (from, computing) (same_passes c.args.self.now.first plan c.args.pass c.args.number stages share)
