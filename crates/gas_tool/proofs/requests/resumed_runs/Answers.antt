use Rattle.std.proofs.Common.{◌≡◌, ◌∙◌, ◌+◌, ℕ, List, Option, None, Ok, Result, ap, ap₂, sym, arith}
use Rattle.gas_geom.specs.Lattice.{LatticeModel}
use Rattle.gas_stage.proofs.Additions.{lattice_after-add}
use Rattle.gas_blocks.specs.Blocks.{blocks_of}
use Rattle.gas_tool_io.specs.Table.{table_text}
use Rattle.gas_tool_io.specs.Text.{cells_text}
use Rattle.gas_pipe_members.specs.declared.plan.PlanError.{PlanError}
use Rattle.gas_scene.specs.declared.error.SceneError.{SceneError}
use Rattle.gas_scene.specs.Catalog.{rules_of}
use Rattle.gas_scene.specs.Scene.{SceneModel}
use Rattle.gas_tool.specs.Outcome.{scene_after, scene_outcome, unless_refused}
use Rattle.gas_tool_cli.specs.declared.words.Request.TheVariants.{Run, Coarse}
use Rattle.gas_tool.proofs.requests.resumed_runs.Goals as goal

-- what is printed of the lattice and its generation after two runs is what is printed after one
printed : (print : LatticeModel → ℕ → List ℕ) (s : SceneModel) (m n : ℕ) (one two : Option PlanError) → one ≡ None → two ≡ None
    → unless_refused two (Ok (print (scene_after (scene_after s m) n).lattice.lattice (s.generation + m + n)))
    ≡ unless_refused one (Ok (print (scene_after s (m + n)).lattice.lattice (s.generation + (m + n))))
printed print s m n one two accepted accepted2 =
    ap₂ (λ (o : Option PlanError) (l : LatticeModel). unless_refused o (Ok (print l (s.generation + m + n)))) (accepted2 ∙ sym accepted)
    (lattice_after-add (rules_of s.lattice.gas) s.chirality s.generation s.lattice.lattice m n)
    ∙ ap (λ (k : ℕ). unless_refused one (Ok (print (scene_after s (m + n)).lattice.lattice k))) (let e : s.generation + m + n ≡ s.generation + (m + n) = omega arith in e)

pub returns-clause-cells : goal.returns-clause-cells
returns-clause-cells c text later s m n stages capacity stages2 capacity2 threads threads2 here there accepted accepted2 =
    ap (λ (r : Result SceneModel SceneError). scene_outcome r (Run stages2 capacity2 n threads2)) there
    ∙ printed (cells_text (rules_of s.lattice.gas)) s m n _ _ accepted accepted2
    ∙ sym (ap (λ (r : Result SceneModel SceneError). scene_outcome r (Run stages capacity (m + n) threads)) here)

pub returns-clause-table : goal.returns-clause-table
returns-clause-table c text later s m n stages capacity stages2 capacity2 width height threads threads2 here there accepted accepted2 =
    ap (λ (r : Result SceneModel SceneError). scene_outcome r (Coarse stages2 capacity2 n threads2 width height)) there
    ∙ printed (λ l k. table_text (blocks_of (rules_of s.lattice.gas) l width height)) s m n _ _ accepted accepted2
    ∙ sym (ap (λ (r : Result SceneModel SceneError). scene_outcome r (Coarse stages capacity (m + n) threads width height)) here)
