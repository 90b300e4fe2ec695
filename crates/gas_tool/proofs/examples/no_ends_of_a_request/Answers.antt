use Rattle.std.proofs.Common.{◌≡◌, ◌∙◌, ap, sym}
use Rattle.std.specs.Prelude.{Result, Ok, Err}
use Rattle.gas_scene.specs.Scene.{SceneModel, scene_of_text}
use Rattle.gas_scene.specs.declared.error.SceneError.{SceneError}
use Rattle.gas_tool.specs.Outcome.{outcome, scene_outcome}
use Rattle.gas_tool.specs.declared.faults.ToolError.TheVariants as tool
use Rattle.gas_tool_cli.specs.declared.words.Request.TheVariants.{Check}
use Rattle.gas_tool_cli.proofs.OneRequest.{one_asked}
use Rattle.gas_tool.proofs.examples.no_ends_of_a_request.Goals as goal

no_passes : (scene : Result SceneModel SceneError) → scene_outcome scene Check ≡ Err tool.MorePasses → ⊥
no_passes (Err error) is = absurd cc
no_passes (Ok scene) is = absurd cc

pub returns-clause-another_fault : goal.returns-clause-another_fault
returns-clause-another_fault c words bytes left old new check ends =
    no_passes (scene_of_text ends.text) (ap (outcome ends.text) (one_asked words Check ends.request check ends.asked) ∙ ends.performed.0)
