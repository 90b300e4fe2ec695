use Rattle.std.proofs.Common.{sym, subst, ◌∙◌}
use Rattle.gas_pipe.specs.Inner.Worker.{LineWorkerModel, HasCome}
use Rattle.gas_pipe.proofs.Workers.{came_took, came_put, came_rests, never_without}
use Rattle.gas_pipe.proofs.line_worker.LineWorker.turn.Goals as goal

pub returns-in-Took-clause-come : goal.returns-in-Took-clause-come
returns-in-Took-clause-come g c =
    let was = subst (λ (w : LineWorkerModel). HasCome g.G.Gas.rules w) (sym c.self.view_is) c.requires.come in
    let did = c.in-Took.ensures.turned in
    came_took was c.turn.new.self c.turn.new.take c.turn.new.put c.turn.ensures.same did.0 did.1 did.2 did.3

pub returns-in-Put-clause-come : goal.returns-in-Put-clause-come
returns-in-Put-clause-come g c =
    let was = subst (λ (w : LineWorkerModel). HasCome g.G.Gas.rules w) (sym c.self.view_is) c.requires.come in
    let did = c.in-Put.ensures.turned in
    came_put was c.turn.new.self c.turn.new.take c.turn.new.put c.turn.ensures.same did.0 did.3 did.4.0 did.4.1 (did.2 ∙ sym c.self.invariant.wide) did.1

pub returns-in-Idle-clause-come : goal.returns-in-Idle-clause-come
returns-in-Idle-clause-come g c =
    let was = subst (λ (w : LineWorkerModel). HasCome g.G.Gas.rules w) (sym c.self.view_is) c.requires.come in
    let did = c.in-Idle.ensures.turned in
    came_rests was c.turn.new.self c.turn.new.take c.turn.new.put c.turn.ensures.same did.0 did.1 did.2

pub begin_next-requires-clause-come : goal.begin_next-requires-clause-come
begin_next-requires-clause-come g c =
    let was = subst (λ (w : LineWorkerModel). HasCome g.G.Gas.rules w) (sym c.self.view_is) c.requires.come in
    let did = c.in-Done.ensures.turned in
    came_rests was c.turn.new.self c.turn.new.take c.turn.new.put c.turn.ensures.same did.0 did.1 did.2

pub returns-in-Took-clause-never_without : goal.returns-in-Took-clause-never_without
returns-in-Took-clause-never_without g c = never_without _ _ (returns-in-Took-clause-come g c)

pub returns-in-Put-clause-never_without : goal.returns-in-Put-clause-never_without
returns-in-Put-clause-never_without g c = never_without _ _ (returns-in-Put-clause-come g c)

pub returns-in-Idle-clause-never_without : goal.returns-in-Idle-clause-never_without
returns-in-Idle-clause-never_without g c = never_without _ _ (returns-in-Idle-clause-come g c)

pub returns-then-begin_next-clause-never_without : goal.returns-then-begin_next-clause-never_without
returns-then-begin_next-clause-never_without g c = never_without _ _ c.begin_next.ensures.come

pub returns-else-begin_next-clause-never_without : goal.returns-else-begin_next-clause-never_without
returns-else-begin_next-clause-never_without g c = never_without _ _ c.begin_next.ensures.come
