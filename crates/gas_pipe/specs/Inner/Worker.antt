-- Inner words: what functions of this crate promise one another. No public contract cites them.
-- A worker of a run with its passes, and what it promises of the lists of its two ends.
use Rattle.std.specs.Prelude.{◌≡◌, ℕ, suc, ◌+◌, ◌*◌, ◌++◌, List, [], length, Option}
use Rattle.std.specs.Int.{div_ceil}
use Rattle.gas_geom.specs.Gas.{Rules}
use Rattle.gas_geom.specs.Channel.{ChannelModel}
use Rattle.gas_rows.specs.Row.{RowModel}
use Rattle.gas_rows.specs.declared.chirality.Chirality.{Chirality}
use Rattle.gas_belt.specs.Belt.{Belt, Sender, Receiver}
use Rattle.gas_pipe_model.specs.Plan.{PlanModel}
use Rattle.gas_pipe_model.specs.Pass.{RunInputModel, generations_of}
use Rattle.gas_pipe_model.specs.Inner.Circle.{owed_in, owes_in}
use Rattle.gas_pipe_members.specs.Worker.{WorkerModel, MayHaveDone}

-- The job of a worker: which worker of which plan it is, over which channel, how it draws its collisions, and the belts that it takes from
-- and puts on.
pub record Job : Type 0 where
  pub number : ℕ
  pub first : ℕ
  pub plan : PlanModel
  pub channel : ChannelModel
  pub chirality : Chirality
  pub from : Belt
  pub to : Belt

-- an end of a belt for rows of the input's lattice, from which none was taken, with two spare rows
pub record IsUnused (input : RunInputModel) (rx : Receiver) : Type 0 where
  pub wide : rx.belt.width ≡ input.lattice.channel.width
  pub nothing_taken : rx.taken ≡ []
  pub two_spares : rx.held ≡ 2
  pub two_places : rx.most ≡ 2

-- a worker's number, the first generation, the plan, the open pass, the worker itself, and its ends; numbers and passes are counted from 0
pub record LineWorkerModel : Type 0 where
  pub number : ℕ
  pub first : ℕ
  pub plan : PlanModel
  pub pass : ℕ
  pub worker : WorkerModel
  pub rx : Receiver
  pub tx : Sender

-- the ends of a worker that is over
pub record EndedModel : Type 0 where
  pub rx : Receiver
  pub spent : Sender

abbrev pub job_of : LineWorkerModel → Job
job_of w = record {
  number = w.number;
  first = w.first;
  plan = w.plan;
  channel = w.worker.stages.channel;
  chirality = w.worker.stages.chirality;
  from = w.rx.belt;
  to = w.tx.belt;
}

-- the job of worker k in a run of this input, between these belts
abbrev pub job_in : RunInputModel → ℕ → Belt → Belt → Job
job_in input k from to = record {
  number = k;
  first = input.first;
  plan = input.plan;
  channel = input.lattice.channel;
  chirality = input.chirality;
  from = from;
  to = to;
}

-- what its stages do in a pass
abbrev pub does_in : Job → ℕ → List (Option ℕ)
does_in j n = generations_of j.first j.plan n (suc j.number)

-- what it owes in the first n passes for the rows that it took
abbrev pub owes_until : Rules → Job → ℕ → List RowModel → List RowModel
owes_until gas j n took =
    owed_in j.channel.height
    (owes_in gas (record { chirality = j.chirality; first = j.first; lattice = record { channel = j.channel; rows = [] }; plan = j.plan }) j.number) n took

-- The end that it takes from has a spare row for each stage and one more, less the rows that it took and has not put, and has room for all.
pub record HasSpares (w : LineWorkerModel) : Type 0 where
  pub count : w.rx.held + length w.rx.taken ≡ length w.worker.stages.stages + 1 + length w.tx.put
  pub room : w.rx.most ≡ length w.worker.stages.stages + 1

-- In the passes before the open one it took all rows and put all that it owes for them, and in the open one it may have taken and put
-- the rest. Its spare rows are counted.
pub record HasCome (gas : Rules) (w : LineWorkerModel) : Type 0 where
  pub took_before : List RowModel
  pub took : List RowModel
  pub gave : List RowModel
  pub whole : length took_before ≡ w.pass * w.worker.stages.channel.height
  pub done : MayHaveDone gas w.worker (does_in (job_of w) w.pass) took gave
  pub came : w.rx.taken ≡ took_before ++ took
  pub went : w.tx.put ≡ owes_until gas (job_of w) w.pass took_before ++ gave
  pub spares : HasSpares w

-- it took all rows of all passes, and put all that it owes for them
pub record HasFinished (gas : Rules) (j : Job) (taken put : List RowModel) : Type 0 where
  pub whole : length taken ≡ div_ceil j.plan.generations j.plan.stages * j.channel.height
  pub owes_is : put ≡ owes_until gas j (div_ceil j.plan.generations j.plan.stages) taken

-- these are the ends of a worker that has finished this job
pub record HasEnded (gas : Rules) (j : Job) (e : EndedModel) : Type 0 where
  pub from : e.rx.belt ≡ j.from
  pub to : e.spent.belt ≡ j.to
  pub finished : HasFinished gas j e.rx.taken e.spent.put
