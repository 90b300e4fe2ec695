use Rattle.std.proofs.Common.{◌≡◌, ◌+◌, ◌++◌, ◌∷◌, [], ◌∙◌, List, length, map, arith, ap, sym, subst, refl, ℕ}
use Rattle.std.proofs.lemmas.List.{map-append, length-append}
use Rattle.gas_rows.specs.Row.{RowModel}
use Rattle.gas_pipe_model.specs.Pass.{RunInputModel}
use Rattle.gas_pipe.specs.Inner.Worker.{Job, job_of, job_in}
use Rattle.gas_pipe.specs.Inner.Feeder.{MayHaveFedInput}
use Rattle.gas_pipe.specs.Inner.Links.{last_belt}
use Rattle.gas_pipe.proofs.Meetings.{linked_snoc, last_belt_snoc, come_snoc}
use Rattle.gas_pipe.proofs.line.make_line.Goals as goal

pub loop-number-init : goal.loop-number-init
loop-number-init g c =
    let none = c.in_ok-workers.ensures.items in
    record {
      leads = rw none tt;
      end = rw none refl;
      count = rw none refl;
      come = rw none tt;
      unused = c.in_ok-tx.ensures.unused;
    }

pub loop-number-preserved : goal.loop-number-preserved
loop-number-preserved g c =
    let was = c.loop-number.invariant in
    let from = c.in_ok-tx.last.belt in
    let before = map job_of c.loop-number.workers.items in
    let worker = c.in_ok-worker.worker in
    let made = c.in_ok-worker.ensures in
    let items = c.in_ok-push.ensures.items in
    let jobs : map job_of c.push.new.self.items ≡ before ++ job_of worker ∷ [] = ap (map job_of) items ∙ map-append job_of c.loop-number.workers.items (worker ∷ []) in
    let to : (job_of worker).to ≡ c.in_ok-worker.next.belt = ap (λ (j : Job). j.to) made.job in
    let next : job_of worker ≡ job_in c.args.input.now c.loop-number.number (last_belt from before) (job_of worker).to =
    made.job ∙ rw (sym was.end, to) refl in
    record {
      leads = rw jobs (linked_snoc c.args.input.now 0 c.loop-number.number from before (job_of worker) (let e : 0 + length before ≡ c.loop-number.number = omega (arith, was.count) in e) was.leads next);
      end = rw (jobs, last_belt_snoc from before (job_of worker)) to;
      count = ap (λ (l : List Job). length l) jobs ∙ length-append before (job_of worker ∷ []) ∙ ap (λ (n : ℕ). n + 1) was.count;
      come = rw items (come_snoc g.G.Gas.rules c.loop-number.workers.items worker was.come made.come);
      unused = made.unused;
    }

pub returns-clause-linked : goal.returns-clause-linked
returns-clause-linked g c =
    let was = c.loop-number.invariant in
    let input = c.args.input.now in
    let from = c.in_ok-tx.last.belt in
    let same : c.input.inside.span.plan.threads ≡ input.plan.threads = ap (λ (q : RunInputModel). q.plan.threads) c.input.view_is in
    let all : c.loop-number.number ≡ input.plan.threads = omega (arith, same, c.threads-number-end.ensures.value) in
    rw (c.take_own-own.ensures.all, c.in_ok-tx.ensures.one_belt)
    (record {
      stages = omega (arith, ap (λ (q : RunInputModel). q.plan.stages) c.input.view_is);
      leads = was.leads;
      count = was.count ∙ all;
      end = was.end;
    })

pub returns-clause-fed : goal.returns-clause-fed
returns-clause-fed g c =
    let gas = g.G.Gas.rules in
    let unused = c.loop-number.invariant.unused in
    record {
      fed =
          subst (λ (l : List RowModel). MayHaveFedInput gas c.args.input.now c.args.feeder l c.loop-number.last.taken) (sym c.in_ok-tx.ensures.nothing_put)
          (subst (λ (l : List RowModel). MayHaveFedInput gas c.args.input.now c.args.feeder [] l) (sym unused.nothing_taken) c.requires.begun.fed);
      spares = rw (c.in_ok-tx.ensures.nothing_put, unused.nothing_taken, c.requires.begun.spares) refl;
      held = omega (arith, unused.two_spares);
      room = omega (arith, unused.two_places);
    }

pub returns-clause-come : goal.returns-clause-come
returns-clause-come g c = rw c.take_own-own.ensures.all c.loop-number.invariant.come
