use Rattle.std.proofs.Common.{◌≡◌, ◌+◌, ◌<◌, [], List, Option, ℕ, sym, subst, ◌∙◌, arith}
use Rattle.std.specs.Int.{div_ceil}
use Rattle.gas_pipe_members.specs.Worker.{IsClosed, MayHaveDone}
use Rattle.gas_pipe_model.proofs.Boundaries.{open_pass}
use Rattle.gas_pipe.specs.Inner.Worker.{LineWorkerModel, HasCome}
use Rattle.gas_pipe.proofs.Workers.{opens, finishes}
use Rattle.gas_pipe.proofs.line_worker.LineWorker.begin_next.Goals as goal

pub returns-then-self-passes-clause-over : goal.returns-then-self-passes-clause-over
returns-then-self-passes-clause-over g c _ =
    let last = subst (λ (w : LineWorkerModel). w.pass + 1 ≡ div_ceil w.plan.generations w.plan.stages) c.self.view_is (c.if-self-passes.true ∙ c.passes.ensures.value) in
    finishes c.requires.come c.requires.closed last

pub returns-clause-come : goal.returns-clause-come
returns-clause-come g c =
    let came = subst (λ (i : LineWorkerModel). HasCome g.G.Gas.rules i) (sym c.self.view_is) c.requires.come in
    let closed = subst (λ (i : LineWorkerModel). IsClosed i.worker) (sym c.self.view_is) c.requires.closed in
    opens came closed c.begin_stages.new.self c.begin_stages.ensures.same
    (subst (λ (es : List (Option ℕ)). MayHaveDone g.G.Gas.rules c.begin_stages.new.self es [] []) (c.generations-first.ensures.passes _ c.self.invariant.stages) c.begin_stages.ensures.nothing_done)

pub generations-first-requires-clause-pass : goal.generations-first-requires-clause-pass
generations-first-requires-clause-pass g c =
    let plan = c.self.inside.span.plan in
    open_pass plan.generations plan.stages (c.self.inside.pass + 1) (let some : 0 < plan.stages = omega arith in some)
    (let few : c.self.inside.pass + 1 < div_ceil plan.generations plan.stages = omega (arith, c.if-self-passes.false, c.passes.ensures.value, c.self.invariant.within) in few)
