use Rattle.std.proofs.Common.{◌++◌, Option, map, subst}
use Rattle.std.specs.Option.{option_to_list}
use Rattle.gas_pipe.specs.Inner.Worker.{LineWorkerModel, job_of}
use Rattle.gas_pipe.specs.Inner.Links.{HaveMet}
use Rattle.gas_pipe.proofs.line.meet_own.Goals as goal

pub meet_before-requires-clause-met : goal.meet_before-requires-clause-met
meet_before-requires-clause-met g c =
    let met = c.requires.met in (
      met.0,
      met.1,
      job_of c.in-Some.worker,
      met.2,
      subst (λ (o : Option LineWorkerModel). HaveMet g.G.Gas.rules met.0 met.1 (map job_of (option_to_list o) ++ met.2) c.args.spent c.args.carried.now.items) c.in-Some.is met.3,
      c.end.ensures,
    )

pub returns-in-Some-clause-met : goal.returns-in-Some-clause-met
returns-in-Some-clause-met g c input f others met =
    c.meet_before.ensures.met input f (job_of c.in-Some.worker) others
    (subst (λ (o : Option LineWorkerModel). HaveMet g.G.Gas.rules input f (map job_of (option_to_list o) ++ others) c.args.spent c.args.carried.now.items) c.in-Some.is met)
    c.end.ensures
