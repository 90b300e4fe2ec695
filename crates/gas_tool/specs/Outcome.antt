-- What `perform` returns and writes.
use Rattle.std.specs.Prelude.{◌≡◌, ◌≤◌, ◌+◌, ℕ, nat_lt, List, length, take, Option, Result, Ok, Err, IsOkAnd, ⊤, if◌then◌else◌}
use Rattle.std.specs.Int.{div_ceil}
use Rattle.std.specs.Io.KnownBytes.{Appends}
use Rattle.std.specs.Option.{option_and_then, option_map_or, option_or}
use Rattle.gas_geom.specs.Gas.{Rules}
use Rattle.gas_geom.specs.Lattice.{LatticeModel}
use Rattle.gas_rows.specs.declared.chirality.Chirality.{Chirality}
use Rattle.gas_stage.specs.Evolution.{lattice_after}
use Rattle.gas_scene.specs.Catalog.{rules_of}
use Rattle.gas_scene.specs.Scene.{SceneModel, scene_of_text}
use Rattle.gas_scene.specs.declared.error.SceneError.{SceneError}
use Rattle.gas_pipe_model.specs.Plan.{PlanModel}
use Rattle.gas_pipe_members.specs.Plan.{plan_refusal, threads_refusal}
use Rattle.gas_pipe_replay.specs.Replay.{replay_of}
use Rattle.gas_pipe_members.specs.declared.plan.PlanError.{PlanError}
use Rattle.gas_tool_io.specs.Text.{cells_text, check_text}
use Rattle.gas_blocks.specs.Blocks.{blocks_of}
use Rattle.gas_tool_io.specs.Table.{table_text}
use Rattle.gas_tool_io.specs.Replay.{replay_text}
use Rattle.gas_tool.specs.declared.faults.ToolError.{ToolError}
use Rattle.gas_tool.specs.declared.faults.ToolError.TheVariants.{Memory, Scene, Plan, Write, MorePasses}
use Rattle.gas_tool_cli.specs.declared.words.Request.{Request}
use Rattle.gas_tool_cli.specs.declared.words.Request.TheVariants.{Check, Run, Coarse, Replay}

-- the first refusal of the plan of a run, of its threads last, which are one per stage if no number is asked for
abbrev pub run_refusal : ℕ → ℕ → ℕ → Option ℕ → Option PlanError
run_refusal stages capacity generations threads =
    option_or (plan_refusal stages capacity generations) (option_and_then (threads_refusal stages) threads)

-- this outcome, unless the plan is refused
abbrev pub unless_refused : Option PlanError → Result (List ℕ) ToolError → Result (List ℕ) ToolError
unless_refused refusal accepted = option_map_or (λ error. Err (Plan error)) refusal accepted

-- The outcome of a request on a lattice of generation `first`: the refusal of its plan, or the text of its answer. A replay that needs more
-- than one pass is a fault.
abbrev pub gas_outcome : Rules → LatticeModel → Chirality → ℕ → Request → Result (List ℕ) ToolError
gas_outcome gas lattice chirality first Check = Ok (check_text gas.name gas lattice)
gas_outcome gas lattice chirality first (Run stages capacity generations threads) =
    unless_refused (run_refusal stages capacity generations threads)
    (Ok (cells_text gas (lattice_after gas chirality first lattice generations) (first + generations)))
gas_outcome gas lattice chirality first (Coarse stages capacity generations threads width height) =
    unless_refused (run_refusal stages capacity generations threads)
    (Ok (table_text (blocks_of gas (lattice_after gas chirality first lattice generations) width height)))
gas_outcome gas lattice chirality first (Replay stages capacity generations turns) =
    let plan : PlanModel = record { stages = stages; capacity = capacity; generations = generations; threads = stages } in
    unless_refused (plan_refusal stages capacity generations) (if nat_lt 1 (div_ceil generations stages) then Err MorePasses
    else Ok (replay_text gas (replay_of gas chirality first lattice plan turns) (first + generations)))

-- the outcome of a request on what was read: the fault, or the outcome on the scene's lattice
abbrev pub scene_outcome : Result SceneModel SceneError → Request → Result (List ℕ) ToolError
scene_outcome (Err error) request = Err (Scene error)
scene_outcome (Ok s) request = gas_outcome (rules_of s.lattice.gas) s.lattice.lattice s.chirality s.generation request

-- the outcome of a request on a text: its first fault, in the order scene, plan, passes, or the text of its answer
abbrev pub outcome : List ℕ → Request → Result (List ℕ) ToolError
outcome text request = scene_outcome (scene_of_text text) request

-- the scene of a scene's lattice n generations later
abbrev pub scene_after : SceneModel → ℕ → SceneModel
scene_after s n = record s {
  lattice = record s.lattice { lattice = lattice_after (rules_of s.lattice.gas) s.chirality s.generation s.lattice.lattice n };
  generation = s.generation + n;
}

-- a call with this expected outcome returns this result, and what was written goes from `old` to `new`. The whole text is
-- added, or its first n bytes if the writer failed after n. Nothing is added if the fault is the expected one or if memory
-- was refused.
abbrev pub Performs : Result (List ℕ) ToolError → Option (List ℕ) → Option (List ℕ) → Result ⊤ ToolError → Type 0
Performs expected old new (Ok _) = IsOkAnd expected (λ text. Appends old new text)
Performs expected old new (Err (Write n)) = IsOkAnd expected (λ text. (n ≤ length text) × Appends old new (take n text))
Performs expected old new (Err Memory) = new ≡ old
Performs expected old new (Err fault) = (expected ≡ Err fault) × (new ≡ old)
