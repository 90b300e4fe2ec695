use Rattle.std.proofs.Common.{◌≡◌, ◌∙◌, ◌+◌, [], suc, ap, sym, subst, length, List, ℕ, Option, arith}
use Rattle.gas_pipe_model.specs.Pass.{RunInputModel, generations_of}
use Rattle.gas_pipe_model.specs.Plan.{before}
use Rattle.gas_pipe_model.proofs.Shares.{before-each}
use Rattle.gas_pipe_members.specs.Worker.{MayHaveDone}
use Rattle.gas_pipe_replay.proofs.Begun.{begun_more}
use Rattle.gas_pipe_replay.proofs.local_line.begin_workers.Goals as goal

pub loop-k-preserved : goal.loop-k-preserved
loop-k-preserved g c =
    let gas = g.G.Gas.rules in
    let k = c.loop-k.k in
    let w = c.begin_stages.new.self in
    let plan = c.input.inside.span.plan in
    let each : plan.threads ≡ plan.stages = subst (λ (q : RunInputModel). q.plan.threads ≡ q.plan.stages) (sym c.input.view_is) c.requires.each in
    let front : before plan k ≡ k = before-each plan k each (omega (arith, c.loop-k-test.true, c.threads-count.ensures.value, each)) in
    let behind : before plan (k + 1) ≡ k + 1 = before-each plan (k + 1) each (omega (arith, c.loop-k-test.true, c.threads-count.ensures.value, each)) in
    let one : before plan k + length c.in_ok-worker.worker.stages.stages ≡ before plan (k + 1) = omega (arith, front, behind, c.in_ok-worker.ensures.one) in
    rw c.in_ok-push.ensures.items
    (begun_more gas c.args.input.now c.loop-k.workers.items k w c.loop-k.invariant
    (record {
      channel = c.begin_stages.ensures.same.channel ∙ c.in_ok-worker.ensures.channel ∙ c.channel.ensures.channel ∙ ap (λ (q : RunInputModel). q.lattice.channel) c.input.view_is;
      chirality = c.begin_stages.ensures.same.chirality ∙ c.in_ok-worker.ensures.chirality ∙ ap (λ (q : RunInputModel). q.chirality) c.input.view_is;
      done = subst (λ (q : RunInputModel). MayHaveDone gas w (generations_of q.first q.plan 0 (suc k)) [] []) c.input.view_is
          (subst (λ (es : List (Option ℕ)). MayHaveDone gas w es [] []) (c.generations-first.ensures.passes _ one) c.begin_stages.ensures.nothing_done);
    }))
