use Rattle.std.proofs.Common.{◌≡◌, ◌⊎◌, sym, subst, inl}
use Rattle.std.specs.Prelude.{Result, Err}
use Rattle.gas_scene.specs.declared.error.SceneError.{SceneError}
use Rattle.gas_scene.specs.declared.error.SceneError.TheVariants.{Memory}
use Rattle.gas_scene.specs.Scene.{SceneModel}
use Rattle.gas_scene.proofs.Documents.{scene_of_text-document, scene_of_text-none}
use Rattle.gas_scene.proofs.scene.read.Goals as goal

pub returns-in-Ok : goal.returns-in-Ok
returns-in-Ok c =
    record {
      answer = subst (λ (said : Result SceneModel SceneError). (c.read_table.result ≡ said) ⊎ (c.read_table.result ≡ Err Memory)) (sym (scene_of_text-document c.args.text.now _ c.in-Ok.ensures.ok.0 c.in-Ok.ensures.ok.1)) c.read_table.ensures;
    }

pub returns-in-Err-2 : goal.returns-in-Err-2
returns-in-Err-2 c =
    record {
      answer = inl (sym (scene_of_text-none c.args.text.now (c.in-Err.ensures.refused (λ m. let bad = c.if-is_memory.ensures.1 m in cc))));
    }
