use Rattle.std.proofs.Common.{rules, ◌≡◌, ◌++◌, ◌∷◌, [], length, ap, sym, ◌∙◌, arith}
use Rattle.std.proofs.lemmas.List.{length-map}
use Rattle.std.specs.Int.{div_ceil}
use Rattle.gas_belt.specs.Belt.{CarriedModel}
use Rattle.gas_pipe_model.specs.Pass.{RunInputModel}
use Rattle.gas_pipe.specs.Inner.Worker.{job_of}
use Rattle.gas_pipe.specs.Inner.Feeder.{LineFeederModel}
use Rattle.gas_pipe.specs.Inner.Links.{jobs_of, worker_of}
use Rattle.gas_pipe.proofs.Meetings.{met_first, met_count, met_long, met_last}
use Rattle.gas_pipe.proofs.Settled.{taken_long, belts_are, lattice_is}
use Rattle.gas_pipe.proofs.line.join_and_meet.Goals as goal

pub meet_own-first-requires-clause-met : goal.meet_own-first-requires-clause-met
meet_own-first-requires-clause-met g c =
    let first = met_first c.feeder.view_is c.requires.linked c.requires.fed c.requires.over c.close.ensures.spent c.requires.none in
    (c.args.input.now, c.args.feeder, jobs_of c.args.threads.items, first)

pub join_threads-requires-clause-met : goal.join_threads-requires-clause-met
join_threads-requires-clause-met g c =
    let first = met_first c.feeder.view_is c.requires.linked c.requires.fed c.requires.over c.close.ensures.spent c.requires.none in
    (c.args.input.now, c.args.feeder, c.meet_own-first.ensures.met _ _ _ first)

pub join_threads-requires-clause-room : goal.join_threads-requires-clause-room
join_threads-requires-clause-room g c =
    let first = met_first c.feeder.view_is c.requires.linked c.requires.fed c.requires.over c.close.ensures.spent c.requires.none in
    let count = met_count (c.meet_own-first.ensures.met _ _ _ first) in
    let same : length (jobs_of c.args.threads.items) ≡ length c.args.threads.items = length-map c.args.threads.items (λ h. job_of (worker_of h)) in
    omega (arith, count, same, c.meet_own-first.new.carried.ok, c.meet_own-first.ensures.capacity, c.requires.room)

pub meet-requires : goal.meet-requires
meet-requires g c =
    let first = met_first c.feeder.view_is c.requires.linked c.requires.fed c.requires.over c.close.ensures.spent c.requires.none in
    let met = c.in_ok-spent.ensures.met _ _ (c.meet_own-first.ensures.met _ _ _ first) in
    record { one_belt = met.end_is ∙ ap (λ (l : LineFeederModel). l.rx.belt) (sym c.feeder.view_is) }

pub unreachable-requires : goal.unreachable-requires
unreachable-requires g c =
    let first = met_first c.feeder.view_is c.requires.linked c.requires.fed c.requires.over c.close.ensures.spent c.requires.none in
    let met = c.in_ok-spent.ensures.met _ _ (c.meet_own-first.ensures.met _ _ _ first) in
    let begun = c.requires.fed.fed in
    let f = c.args.feeder in
    let same =
    met_long met ∙ sym (taken_long c.args.input.now f.feeder f.tx.put f.rx.taken begun.channel c.requires.over begun.fed)
    ∙ ap (λ (l : LineFeederModel). length l.rx.taken) (sym c.feeder.view_is) in
    let h = c.in_default.ensures.exactly.1 same in
    search rules

pub push_reserved-requires : goal.push_reserved-requires
push_reserved-requires g c =
    let first = met_first c.feeder.view_is c.requires.linked c.requires.fed c.requires.over c.close.ensures.spent c.requires.none in
    let count = met_count (c.in_ok-spent.ensures.met _ _ (c.meet_own-first.ensures.met _ _ _ first)) in
    omega (arith, count, c.join_threads.new.carried.ok, c.in_ok-spent.ensures.capacity, c.meet_own-first.ensures.capacity, c.requires.room)

pub returns : goal.returns
returns g c =
    let input = c.args.input.now in
    let first = met_first c.feeder.view_is c.requires.linked c.requires.fed c.requires.over c.close.ensures.spent c.requires.none in
    let met = c.in_ok-spent.ensures.met _ _ (c.meet_own-first.ensures.met _ _ _ first) in
    let begun = c.requires.fed.fed in
    let ends = c.in-Ok.ensures in
    let last = met_last met ends.equal in
    let back = ap (λ (l : LineFeederModel). l.rx.taken) (sym c.feeder.view_is) ∙ ends.equal ∙ last.0 in
    let some = c.requires.linked.stages in
    record {
      lattice =
          lattice_is g.met.G.Gas.laws begun.is_input begun.channel c.requires.over some begun.some begun.fed back
          c.finish.result (c.finish.ensures.channel ∙ ap (λ (l : LineFeederModel). l.feeder.channel) c.feeder.view_is)
          (c.finish.ensures.rows ∙ ap (λ (l : LineFeederModel). l.feeder.rows) c.feeder.view_is);
      stages = ap (λ (q : RunInputModel). q.plan.stages) c.input.view_is;
      threads = ap (λ (q : RunInputModel). q.plan.threads) c.input.view_is;
      passes = ap (λ (q : RunInputModel). div_ceil q.plan.generations q.plan.stages) c.input.view_is;
      belts =
          c.push_reserved.ensures.items ∙ ap (λ (x : CarriedModel). c.join_threads.new.carried.items ++ x ∷ []) ends.carried ∙ last.1
          ∙ belts_are g.met.G.Gas.laws begun.is_input begun.channel c.requires.over some begun.some begun.fed back;
    }
