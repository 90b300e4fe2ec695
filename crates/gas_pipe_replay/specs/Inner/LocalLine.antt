-- Inner words: what functions of this crate promise one another. No public contract cites them.
-- What the members and belts of a line on one thread show of its histories.
use Rattle.std.specs.Prelude.{◌≡◌, ℕ, suc, ◌≤◌, ◌<◌, ◌++◌, [], List, length, get_or}
use Rattle.gas_geom.specs.Gas.{Rules}
use Rattle.gas_rows.specs.Row.{RowModel}
use Rattle.gas_pipe_model.specs.Line.{State}
use Rattle.gas_pipe_model.specs.Pass.{RunInputModel, IsRunInput, generations_of, rows_on}
use Rattle.gas_pipe_members.specs.Belt.{BeltModel}
use Rattle.gas_pipe_members.specs.Worker.{WorkerModel, MayHaveDone}
use Rattle.gas_pipe_members.specs.Feeder.{FeederModel, MayHaveFed}

-- belt k of these
abbrev pub belt : List BeltModel → ℕ → BeltModel
belt belts k = get_or belts k (record { rows = []; capacity = 0 })

-- worker k + 1 of the pass may have taken these rows and put those
pub record IsAt (gas : Rules) (input : RunInputModel) (k : ℕ) (w : WorkerModel) (took gave : List RowModel) : Type 0 where
  pub channel : w.stages.channel ≡ input.lattice.channel
  pub chirality : w.stages.chirality ≡ input.chirality
  pub done : MayHaveDone gas w (generations_of input.first input.plan 0 (suc k)) took gave

-- the feeder, the workers and the belts may have come to their states by these histories of the pass
pub record Shows (gas : Rules) (input : RunInputModel) (f : FeederModel) (workers : List WorkerModel) (belts : List BeltModel) (s : State) : Type 0 where
  pub is_input : IsRunInput gas input
  pub workers_are : length workers ≡ input.plan.threads
  pub belts_are : length belts ≡ suc input.plan.threads
  pub channel : f.channel ≡ input.lattice.channel
  pub fed : MayHaveFed f 1 (rows_on gas input 0 0) (s.put 0) (s.taken input.plan.threads)
  pub done : (k : ℕ) (d : WorkerModel) → k < input.plan.threads → IsAt gas input k (get_or workers k d) (s.taken k) (s.put (suc k))
  pub holds : (k : ℕ) → k ≤ input.plan.threads → s.taken k ++ (belt belts k).rows ≡ s.put k
  pub capacity : (k : ℕ) → k ≤ input.plan.threads → (belt belts k).capacity ≡ input.plan.capacity

-- the workers are n, and each has begun its pass
abbrev pub HaveBegun : Rules → RunInputModel → List WorkerModel → ℕ → Type 0
HaveBegun gas input workers n = (length workers ≡ n) × ((k : ℕ) (d : WorkerModel) → k < n → IsAt gas input k (get_or workers k d) [] [])

-- the belts are n unused ones
abbrev pub AreUnused : ℕ → List BeltModel → ℕ → Type 0
AreUnused capacity belts n = (length belts ≡ n) × ((k : ℕ) → k < n → belt belts k ≡ record { rows = []; capacity = capacity })
