use Rattle.std.proofs.Common.{rules, ◌≡◌, ◌<◌, ◌++◌, ◌∙◌, List, None, subst, ap, sym}
use Rattle.std.specs.Option.{option_to_list}
use Rattle.gas_rows.specs.Row.{RowModel}
use Rattle.gas_pipe_members.specs.Worker.{WorkerModel, MayHaveDone, owes}
use Rattle.gas_pipe_members.proofs.Workers.{still_owes, closed_all, more_all, put_all}
use Rattle.gas_pipe_members.proofs.worker.Worker.next_row.Goals as goal
use Rattle.gas_pipe_members.proofs.worker.Worker.next_row.Goals.{then-not-is_open-via-then-not-is_open, then-not-is_open-via-else-not-is_open+then-fed-height}

pub returns-then-is_some-clause-owing : goal.returns-then-is_some-clause-owing
returns-then-is_some-clause-owing g c some es took gave done all =
    still_owes g.G.Gas.rules c.args.self.now es took gave done c.args.self.now.stages.flushed c.args.self.now.waiting (search rules) done.put_returned all

pub returns-then-not-is_open-clause-done_all : goal.returns-then-not-is_open-clause-done_all
returns-then-not-is_open-clause-done_all g c none all es took gave done =
    let waits : c.args.self.now.waiting ≡ None = search rules in
    (done.took_all all, closed_all g.G.Gas.rules c.args.self.now es took gave done (record { stages = all; waiting = waits }))

pub returns-then-not-is_open-clause-more : goal.returns-then-not-is_open-clause-more
returns-then-not-is_open-clause-more g c none low =
    let waits : c.args.self.now.waiting ≡ None = search rules in
    let fewer : c.args.self.now.stages.fed < c.args.self.now.stages.channel.height =
    elim c.then-not-is_open.branch [ then-not-is_open-via-then-not-is_open w ↦ search rules | then-not-is_open-via-else-not-is_open+then-fed-height w ↦ search rules ] in
    (search rules, fewer, λ es took gave done. more_all g.G.Gas.rules c.args.self.now es took gave done waits fewer)

pub returns-clause-owing : goal.returns-clause-owing
returns-clause-owing g c some es took gave done all =
    let gas = g.G.Gas.rules in
    let s = c.self.inside.stages in
    let was : WorkerModel = record { stages = s; waiting = c.self.inside.waiting; stray = c.self.inside.stray } in
    let did = subst (λ (w : WorkerModel). MayHaveDone gas w es took gave) (sym c.self.view_is) done in
    let none : c.self.inside.waiting ≡ None = search rules in
    still_owes gas was es took gave did c.flush.new.self.flushed c.flush.result some
    (ap (λ (l : List RowModel). l ++ option_to_list c.flush.result) (put_all gas was es took gave did none) ∙ sym (c.flush.ensures.gives es took did.fed))
    (subst (λ (w : WorkerModel). gave ≡ owes gas w es took) (sym c.self.view_is) all)
