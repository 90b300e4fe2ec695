-- Inner words: what functions of this crate promise one another. No public contract cites them.
-- How the workers of a run are linked, and what the belts have carried when it is over.
use Rattle.std.specs.Prelude.{◌≡◌, ℕ, suc, ◌+◌, ◌*◌, ◌<◌, List, [], ◌∷◌, length, map, Option}
use Rattle.std.specs.Int.{div_ceil}
use Rattle.std.specs.List.{range_with_len}
use Rattle.std.specs.declared.thread.PromisedHandle.{PromisedHandle}
use Rattle.gas_geom.specs.Gas.{Rules}
use Rattle.gas_belt.specs.Belt.{Belt, Sender, CarriedModel}
use Rattle.gas_pipe.specs.declared.job.JobPromise.{JobPromise}
use Rattle.gas_rows.specs.Row.{RowModel}
use Rattle.gas_stage.specs.Evolution.{lattice_after}
use Rattle.gas_pipe_model.specs.Pass.{RunInputModel, IsRunInput, carried_by_belts}
use Rattle.gas_pipe_model.specs.Inner.Circle.{on_belt, owes_in}
use Rattle.gas_pipe.specs.Run.{RunModel}
use Rattle.gas_pipe.specs.Inner.Worker.{LineWorkerModel, EndedModel, Job, job_of, job_in, HasCome}
use Rattle.gas_pipe.specs.Inner.Feeder.{LineFeederModel}

-- the jobs are those of the workers from the k-th on: the first takes from the belt `from`, and each other from the belt of the one before
abbrev pub Linked : RunInputModel → ℕ → Belt → List Job → Type 0
Linked input k from [] = Unit {0}
Linked input k from (j ∷ js) = (j ≡ job_in input k from j.to) × Linked input (suc k) j.to js

-- the belt after the last of them
abbrev pub last_belt : Belt → List Job → Belt
last_belt from [] = from
last_belt from (j ∷ js) = last_belt j.to js

-- all may start
abbrev pub AllHaveCome : Rules → List LineWorkerModel → Type 0
AllHaveCome gas [] = Unit {0}
AllHaveCome gas (w ∷ ws) = HasCome gas w × AllHaveCome gas ws

-- The line is linked: the jobs of its workers lead from the belt that the feeder puts on to the belt that it takes from.
pub record IsLinked (input : RunInputModel) (belts : Belt × Belt) (jobs : List Job) : Type 0 where
  pub stages : 0 < input.plan.stages
  pub leads : Linked input 0 belts.0 jobs
  pub count : length jobs ≡ input.plan.threads
  pub end : last_belt belts.0 jobs ≡ belts.1

-- the worker that a thread was given
abbrev pub worker_of : PromisedHandle (Option EndedModel) (JobPromise LineWorkerModel) → LineWorkerModel
worker_of h = h.promise.0.value

-- the jobs of the threads
abbrev pub jobs_of : List (PromisedHandle (Option EndedModel) (JobPromise LineWorkerModel)) → List Job
jobs_of hs = map (λ h. job_of (worker_of h)) hs

-- a belt from which these rows were taken, and no others were put on it
abbrev pub carrying : List RowModel → CarriedModel
carrying rows = record { put = rows; taken = rows }

-- what is on belt k after all passes of the input's plan, if the rows b are on belt 0 and each worker puts what it owes
abbrev pub rows_on_belt : Rules → RunInputModel → List RowModel → ℕ → List RowModel
rows_on_belt gas input b k = on_belt input.lattice.channel.height (owes_in gas input) (div_ceil input.plan.generations input.plan.stages) b k

-- what is on the first n belts
abbrev pub belts_before : Rules → RunInputModel → List RowModel → ℕ → List CarriedModel
belts_before gas input b n = map (λ k. carrying (rows_on_belt gas input b k)) (range_with_len 0 n)

-- The feeder put all rows. The belts before the k-th have met, s is the closed end of the k-th, and these are the jobs of the workers behind
-- it, the last of which puts on the belt that the feeder takes from.
pub record HaveMet (gas : Rules) (input : RunInputModel) (f : LineFeederModel) (jobs : List Job) (s : Sender) (now : List CarriedModel) : Type 0 where
  pub is_input : IsRunInput gas input
  pub long : length f.tx.put ≡ div_ceil input.plan.generations input.plan.stages * input.lattice.channel.height
  pub k : ℕ
  pub put_is : s.put ≡ rows_on_belt gas input f.tx.put k
  pub belts : now ≡ belts_before gas input f.tx.put k
  pub leads : Linked input k s.belt jobs
  pub count : k + length jobs ≡ input.plan.threads
  pub end_is : last_belt s.belt jobs ≡ f.rx.belt

-- a run of the input's plan: its lattice, and what its belts carried
pub record IsRunOf (gas : Rules) (input : RunInputModel) (r : RunModel) : Type 0 where
  pub lattice : r.lattice ≡ lattice_after gas input.chirality input.first input.lattice input.plan.generations
  pub stages : r.stages ≡ input.plan.stages
  pub threads : r.threads ≡ input.plan.threads
  pub passes : r.passes ≡ div_ceil input.plan.generations input.plan.stages
  pub belts : r.belts ≡ map carrying (carried_by_belts gas input)
