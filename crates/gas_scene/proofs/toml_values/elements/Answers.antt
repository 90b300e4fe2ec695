use Rattle.std.proofs.Common.{ap, sym, ◌∙◌, map}
use Rattle.toml.specs.View.{view}
use Rattle.gas_scene.specs.Table.{elements_of}
use Rattle.gas_scene.proofs.Values.{elements_of-Array}
use Rattle.gas_scene.proofs.toml_values.elements.Goals as goal

pub returns-in-Array : goal.returns-in-Array
returns-in-Array c =
    ap (map view) c.as_slice.ensures.value ∙ sym (elements_of-Array c.in-Array.elements) ∙ ap (λ v. elements_of (view v)) (sym c.in-Array.is)
