use Rattle.std.proofs.Common.{rules, refl, ◌++◌, ◌∷◌, [], ◌≡◌, length, subst, sym}
use Rattle.gas_pipe_members.specs.Worker.{WorkerModel, Does}
use Rattle.gas_pipe_members.proofs.worker.Worker.turn.Goals as goal

pub returns-then-is_put-clause-turned : goal.returns-then-is_put-clause-turned
returns-then-is_put-clause-turned g c =
    let put = c.if-is_put.ensures.put refl in (
      c.in-Some.row,
      subst (λ (w : WorkerModel). Does g.G.Gas.rules c.args.self.now (λ l. l) (λ l. l ++ c.in-Some.row ∷ []) w) (sym put.0) c.in-Some.ensures.put,
      search rules,
      put.1,
      (put.2, put.3),
    )

pub returns-else-is_put-clause-turned : goal.returns-else-is_put-clause-turned
returns-else-is_put-clause-turned g c =
    let idle = c.if-is_put.ensures.idle refl in (
      idle.2,
      idle.0,
      subst (λ (w : WorkerModel). Does g.G.Gas.rules c.args.self.now (λ l. l) (λ l. l) w) (sym idle.3) c.in-Some.ensures.waits,
      λ e took gave done. ((λ _ ready. idle.1 ready), (λ all _. c.in-Some.ensures.owing refl e took gave done all)),
    )

pub returns-clause-turned : goal.returns-clause-turned
returns-clause-turned g c = (
  c.in-Some-try_take.row,
  c.in-Some-try_take.ensures.take,
  search rules,
  (λ e took gave done. c.accept.ensures.took e took gave (c.next_row.ensures.none (search rules) e took gave done)),
  (c.next_row.ensures.more (search rules) (search rules)).2,
)

pub returns-then-not-is_open-clause-turned : goal.returns-then-not-is_open-clause-turned
returns-then-not-is_open-clause-turned g c =
    let all : c.next_row.new.self.stages.flushed ≡ length c.next_row.new.self.stages.stages = search rules in
    (search rules, search rules, c.next_row.ensures.none (search rules), record { stages = all; waiting = c.next_row.ensures.none_waits }, c.next_row.ensures.done_all (search rules) all)
