-- Inner words: what functions of this crate promise one another. No public contract cites them.
-- What a thread of a run does.
use Rattle.std.specs.Prelude.{◌≡◌, Option, List, map, IfSome}
use Rattle.std.specs.Option.{option_map, option_to_list}
use Rattle.gas_geom.specs.Gas.{Rules}
use Rattle.gas_belt.specs.Belt.{Belt}
use Rattle.gas_pipe_model.specs.Pass.{RunInputModel}
use Rattle.gas_pipe.specs.Inner.Worker.{LineWorkerModel, Job, job_of, HasCome, HasFinished}
use Rattle.gas_pipe.specs.Inner.Feeder.{LineFeederModel, belts_of, HasFed}

-- the feeder, if it is on that thread, and the worker, if there is one
pub record CrewModel : Type 0 where
  pub feeder : Option LineFeederModel
  pub worker : Option LineWorkerModel

-- the belts of the feeder
abbrev pub crew_belts : CrewModel → Option (Belt × Belt)
crew_belts c = option_map belts_of c.feeder

-- the job of the worker
abbrev pub crew_jobs : CrewModel → List Job
crew_jobs c = map job_of (option_to_list c.worker)

-- in a run of this input they put and took the rows of their ends
pub record CrewHasCome (gas : Rules) (input : RunInputModel) (c : CrewModel) : Type 0 where
  pub feeder : IfSome c.feeder (λ f. HasFed gas input f)
  pub worker : IfSome c.worker (λ w. HasCome gas w)

-- they are the same members between the same belts
pub record SameCrew (old new : CrewModel) : Type 0 where
  pub belts : crew_belts new ≡ crew_belts old
  pub jobs : crew_jobs new ≡ crew_jobs old

-- their passes are over
pub record IsOver (gas : Rules) (c : CrewModel) : Type 0 where
  pub feeder : IfSome c.feeder (λ f. f.feeder.to_take ≡ 0)
  pub worker : IfSome c.worker (λ w. HasFinished gas (job_of w) w.rx.taken w.tx.put)
