-- A pass on one thread whose members make given turns.
use Rattle.std.specs.Prelude.{ℕ, ◌+◌, ◌==◌, if◌then◌else◌, Option, Some, None, List, [], length, map}
use Rattle.std.specs.List.{range_with_len}
use Rattle.gas_geom.specs.Gas.{Rules}
use Rattle.gas_geom.specs.Lattice.{LatticeModel}
use Rattle.gas_rows.specs.declared.chirality.Chirality.{Chirality}
use Rattle.gas_stage.specs.Evolution.{lattice_after}
use Rattle.gas_pipe_model.specs.Line.{State, is_done}
use Rattle.gas_pipe_model.specs.Pass.{RunInputModel, line_of, after}
use Rattle.gas_pipe_model.specs.Plan.{PlanModel}
use Rattle.gas_pipe_replay.specs.declared.pass.Counts.{Counts}

-- the lattice, if the pass is done, and how far each belt is
pub record ReplayModel : Type 0 where
  pub lattice : Option LatticeModel
  pub belts : List Counts

-- how many rows were put on belt k, and how many were taken from it
abbrev pub counts_of : State → ℕ → Counts
counts_of s k = record { put = length (s.put k); taken = length (s.taken k) }

-- the input of a replay, which has a worker for each stage of its plan
abbrev pub input_of : Chirality → ℕ → LatticeModel → PlanModel → RunInputModel
input_of chirality first lattice plan =
    record { chirality = chirality; first = first; lattice = lattice; plan = record plan { threads = plan.stages } }

-- The state of the one pass of a plan after these turns: how far each of its belts is and, if it is done, the lattice after all
-- generations. Without a generation to compute there is no belt, and it is done at once.
abbrev pub replay_of : Rules → Chirality → ℕ → LatticeModel → PlanModel → List ℕ → ReplayModel
replay_of gas chirality first lattice plan turns =
    let input : RunInputModel = input_of chirality first lattice plan in
    if plan.generations == 0 then record { lattice = Some lattice; belts = [] }
    else record {
      lattice = if is_done (line_of gas input 0) (after gas input 0 turns) then Some (lattice_after gas chirality first lattice plan.generations) else None;
      belts = map (counts_of (after gas input 0 turns)) (range_with_len 0 (plan.stages + 1));
    }
