use Rattle.std.proofs.Common.{rules, ◌≡◌, ◌++◌, List, map, ap, sym, subst, ◌∙◌}
use Rattle.std.specs.Option.{option_to_list}
use Rattle.std.proofs.lemmas.List.{map-append}
use Rattle.std.proofs.lemmas.Simd.{map-map}
use Rattle.gas_belt.specs.Belt.{Belt}
use Rattle.gas_pipe.specs.Inner.Worker.{Job, job_of}
use Rattle.gas_pipe.specs.Inner.Feeder.{belts_of}
use Rattle.gas_pipe.specs.Inner.Crew.{CrewModel, crew_jobs}
use Rattle.gas_pipe.specs.Inner.Links.{IsLinked, jobs_of, worker_of}
use Rattle.gas_pipe.proofs.Meetings.{come_own}
use Rattle.gas_pipe.proofs.line.run_in_scope.Goals as goal

pub start_threads-requires : goal.start_threads-requires
start_threads-requires g c =
    let come = (come_own g.G.Gas.rules c.in-Ok.own c.in-Ok.workers.items c.in-Ok.ensures.come).1 in
    search rules

pub run-requires : goal.run-requires
run-requires g c =
    record { come = (c.args.input.now, record { feeder = c.in-Ok.ensures.fed; worker = (come_own g.G.Gas.rules c.in-Ok.own c.in-Ok.workers.items c.in-Ok.ensures.come).0 }) }

pub join_and_meet-requires-clause-linked : goal.join_and_meet-requires-clause-linked
join_and_meet-requires-clause-linked g c =
    let input = c.args.input.now in
    let others = c.in-Ok.workers.items in
    let threads = c.in_ok-threads.threads.items in
    let same = c.if-not-run.ensures.same in
    let belts : belts_of c.in-Some.feeder ≡ belts_of c.in-Ok.feeder = search rules in
    let own : map job_of (option_to_list c.crew.inside.worker) ≡ map job_of (option_to_list c.in-Ok.own) = ap (λ (k : CrewModel). crew_jobs k) c.crew.view_is ∙ same.jobs in
    let started : jobs_of threads ≡ map job_of others = sym (map-map job_of worker_of threads) ∙ ap (map job_of) c.in_ok-threads.ensures in
    let jobs : map job_of (option_to_list c.crew.inside.worker) ++ jobs_of threads ≡ map job_of (option_to_list c.in-Ok.own ++ others) =
    ap (λ (l : List Job). l ++ jobs_of threads) own ∙ ap (λ (l : List Job). map job_of (option_to_list c.in-Ok.own) ++ l) started
    ∙ sym (map-append job_of (option_to_list c.in-Ok.own) others) in
    subst (λ (l : List Job). IsLinked input (belts_of c.in-Some.feeder) l) (sym jobs)
    (subst (λ (b : Belt × Belt). IsLinked input b (map job_of (option_to_list c.in-Ok.own ++ others))) (sym belts) c.in-Ok.ensures.linked)

pub join_and_meet-requires-clause-fed : goal.join_and_meet-requires-clause-fed
join_and_meet-requires-clause-fed g c =
    let came = c.if-not-run.ensures.come c.args.input.now (record { feeder = c.in-Ok.ensures.fed; worker = (come_own g.G.Gas.rules c.in-Ok.own c.in-Ok.workers.items c.in-Ok.ensures.come).0 }) in
    let fed = came.feeder in
    search rules
