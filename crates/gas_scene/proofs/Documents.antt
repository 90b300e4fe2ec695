-- The result of a text, by its document.
use Rattle.std.proofs.Common.{◌≡◌, Bool, true, false, List, ℕ, Some, None, ap, ◌∙◌, refl, if◌then◌else◌}
use Rattle.std.specs.Prelude.{Err, IsUtf8}
use Rattle.std.specs.Option.{option_map_or}
use Rattle.std.specs.Str.{is_utf8}
use Rattle.std.proofs.lemmas.Str.{IsUtf8-from_is_utf8, is_utf8-from_IsUtf8}
use Rattle.toml.specs.Data.{Members}
use Rattle.toml.specs.Parse.{parse_document}
use Rattle.gas_scene.specs.declared.error.SceneError.TheVariants.{Syntax}
use Rattle.gas_scene.specs.Scene.{table_answer, scene_of_text}

-- a text that is a document
pub scene_of_text-document : (text : List ℕ) (ms : Members) → IsUtf8 text → parse_document text ≡ Some ms → scene_of_text text ≡ table_answer ms
unfolding scene_of_text
scene_of_text-document text ms utf8 is =
    ap (λ (b : Bool). if b then option_map_or table_answer (parse_document text) (Err Syntax) else Err Syntax) (is_utf8-from_IsUtf8 text utf8)
    ∙ ap (λ o. option_map_or table_answer o (Err Syntax)) is

syntax_if : (text : List ℕ) (b : Bool) → is_utf8 text ≡ b → (IsUtf8 text → parse_document text ≡ None)
    → (if b then option_map_or table_answer (parse_document text) (Err Syntax) else Err Syntax) ≡ Err Syntax
syntax_if text true e none = ap (λ o. option_map_or table_answer o (Err Syntax)) (none (IsUtf8-from_is_utf8 text e))
syntax_if text false e none = refl

-- a text that is no document
pub scene_of_text-none : (text : List ℕ) → (IsUtf8 text → parse_document text ≡ None) → scene_of_text text ≡ Err Syntax
unfolding scene_of_text
scene_of_text-none text none = syntax_if text (is_utf8 text) refl none
