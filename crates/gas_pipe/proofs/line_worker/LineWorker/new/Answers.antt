use Rattle.std.proofs.Common.{rules, ◌≡◌, ◌+◌, ◌<◌, [], refl, ap, sym, subst, ◌∙◌, ℕ, List, Option, length, arith}
use Rattle.gas_rows.specs.Row.{RowModel}
use Rattle.gas_pipe_model.specs.Plan.{before}
use Rattle.gas_pipe_model.proofs.Boundaries.{some_passes}
use Rattle.gas_pipe_model.specs.Pass.{RunInputModel}
use Rattle.gas_belt.specs.Belt.{Receiver}
use Rattle.gas_pipe.specs.Inner.Worker.{LineWorkerModel}
use Rattle.gas_pipe_members.specs.Worker.{MayHaveDone}
use Rattle.gas_pipe.proofs.Workers.{begins}
use Rattle.gas_pipe.proofs.line_worker.LineWorker.new.Goals as goal

pub returns-clause-come : goal.returns-clause-come
returns-clause-come g c =
    let fresh = c.in_ok-with_spares.ensures.fresh in
    let span = c.input.inside.span in
    let number = c.args.share.number in
    let w : LineWorkerModel = record {
      number = number;
      first = span.first;
      plan = span.plan;
      pass = 0;
      worker = c.begin_stages.new.self;
      rx = c.in_ok-with_spares.field-0;
      tx = c.args.tx;
    } in
    let share = subst (λ (i : RunInputModel). before i.plan number + c.args.share.stages ≡ before i.plan (number + 1)) (sym c.input.view_is) c.requires.stages in
    let all : before span.plan number + length c.in_ok-worker.worker.stages.stages ≡ before span.plan (number + 1) = ap (λ (n : ℕ). before span.plan number + n) c.in_ok-worker.ensures.count ∙ share in
    begins g.G.Gas.rules w refl
    (subst (λ (es : List (Option ℕ)). MayHaveDone g.G.Gas.rules c.begin_stages.new.self es [] []) (c.generations-first.ensures.passes _ all) c.begin_stages.ensures.nothing_done)
    (ap (λ (r : Receiver). r.taken) fresh ∙ c.requires.unused.nothing_taken) c.requires.nothing_put
    (record {
      count =
          omega (
            arith,
            ap (λ (r : Receiver). r.held) fresh,
            ap (λ (r : Receiver). length r.taken) fresh,
            ap (λ (l : List RowModel). length l) c.requires.unused.nothing_taken,
            ap (λ (l : List RowModel). length l) c.requires.nothing_put,
            c.begin_stages.ensures.same.count,
            c.in_ok-worker.ensures.count,
          );
      room = ap (λ (r : Receiver). r.most) fresh ∙ omega (arith, c.begin_stages.ensures.same.count, c.in_ok-worker.ensures.count);
    })

pub invariant_of-result : goal.invariant_of-result
invariant_of-result g c = record {
  one_of = subst (λ (i : RunInputModel). c.args.share.number < i.plan.threads) (sym c.input.view_is) c.requires.one_of;
  stages =
      ap (λ (n : ℕ). before c.input.inside.span.plan c.args.share.number + n) (c.begin_stages.ensures.same.count ∙ c.in_ok-worker.ensures.count)
      ∙ subst (λ (i : RunInputModel). before i.plan c.args.share.number + c.args.share.stages ≡ before i.plan (c.args.share.number + 1))
      (sym c.input.view_is) c.requires.stages;
  within = some_passes c.input.inside.span.plan.generations c.input.inside.span.plan.stages
      (let some : 0 < c.input.inside.span.plan.stages = search rules in some)
      (subst (λ (i : RunInputModel). 0 < i.plan.generations) (sym c.input.view_is) c.requires.some);
  wide = search rules;
}
