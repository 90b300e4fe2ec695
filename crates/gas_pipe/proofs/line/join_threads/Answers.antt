use Rattle.std.proofs.Common.{rules, ◌≡◌, [], List, Option, ap, subst, ◌∙◌, arith}
use Rattle.std.specs.Vec.Iter.{into_iter_items}
use Rattle.std.proofs.lemmas.List.{nil_from_length}
use Rattle.std.specs.declared.thread.PromisedHandle.{PromisedHandle}
use Rattle.gas_pipe.specs.declared.job.JobPromise.{JobPromise}
use Rattle.gas_pipe.specs.Inner.Worker.{Job, job_of, EndedModel, LineWorkerModel}
use Rattle.gas_pipe.specs.Inner.Links.{jobs_of, worker_of, HaveMet}
use Rattle.gas_pipe.proofs.line.join_threads.Goals as goal

abbrev Handle : Type 0
Handle = PromisedHandle (Option EndedModel) (JobPromise LineWorkerModel)

pub meet_before-spent-requires-clause-met : goal.meet_before-spent-requires-clause-met
meet_before-spent-requires-clause-met g c =
    let gas = g.G.Gas.rules in
    let input = c.requires.met.0 in
    let f = c.requires.met.1 in
    let all = c.loop-thread.invariant.met input f (rw c.into_iter-thread-iterator.ensures.into_iter_gives.0 c.requires.met.2) in
    let j = job_of (worker_of c.in-Some.thread) in
    let rest = jobs_of (into_iter_items c.next.new.self) in
    (input, f, j, rest, subst (λ (l : List Job). HaveMet gas input f l c.loop-thread.spent c.loop-thread.carried.items) (ap jobs_of c.in-Some.ensures.steps.0) all, c.in_ok-ended.ensures)

pub loop-thread-preserved : goal.loop-thread-preserved
loop-thread-preserved g c =
    let gas = g.G.Gas.rules in
    let was = c.loop-thread.invariant in
    let did = c.meet_before-spent.ensures in
    let j = job_of (worker_of c.in-Some.thread) in
    let rest = jobs_of (into_iter_items c.next.new.self) in
    record {
      met = λ input f first.
          did.met input f j rest (subst (λ (l : List Job). HaveMet gas input f l c.loop-thread.spent c.loop-thread.carried.items) (ap jobs_of c.in-Some.ensures.steps.0) (was.met input f first))
          c.in_ok-ended.ensures;
      room = search rules;
      capacity = did.capacity ∙ was.capacity;
    }

pub returns-clause-met : goal.returns-clause-met
returns-clause-met g c input f met =
    let gas = g.G.Gas.rules in
    let rest = c.loop-thread.thread-iterator.rest in
    let none : rest.items ≡ [] = nil_from_length rest.items (omega (arith, rest.ok, c.in-None.ensures.steps.0)) in
    subst (λ (l : List Handle). HaveMet gas input f (jobs_of l) c.loop-thread.spent c.loop-thread.carried.items) none (c.loop-thread.invariant.met input f (rw c.into_iter-thread-iterator.ensures.into_iter_gives.0 met))
