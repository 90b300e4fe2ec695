use Rattle.std.proofs.Common.{◌≡◌, ◌==◌, ◌&&◌, true, length, sym, ap, ◌∙◌, eq-eqb, rules, tests}
use Rattle.std.proofs.lemmas.List.{length-map}
use Rattle.std.proofs.lemmas.Iterator.{YieldsList-from_slice}
use Rattle.std.proofs.lemmas.Iterator.Search.{all_from_yields_List}
use Rattle.toml.specs.Data.{as_integer}
use Rattle.toml.specs.View.{view}
use Rattle.toml.specs.declared.value.Value.{Value}
use Rattle.gas_scene.specs.Table.{elements_of}
use Rattle.gas_scene.specs.Keys.{has_type, is_array_of}
use Rattle.gas_scene.proofs.Values.{is_array_of-elements}
use Rattle.gas_scene.proofs.toml_values.is_tuple.Goals as goal

pub returns-then-is_array : goal.returns-then-is_array
returns-then-is_array c =
    let d = view c.args.value.now in
    let numbers = c.elements-numbers.result.now in
    let long : (length (elements_of d) == c.args.n) ≡ true = eq-eqb _ _ (ap length (sym c.elements-numbers.ensures) ∙ length-map numbers view ∙ c.if-numbers-n.true) in
    (all_from_yields_List (λ (v : Value). has_type as_integer (view v)) _ _ _ c.all.ensures.ran (YieldsList-from_slice _ c.iter.ensures.rest) (λ x b q k. search (rules, tests)))
    ∙ is_array_of-elements (has_type as_integer) numbers d (sym c.is_array.ensures ∙ c.if-is_array.true) c.elements-numbers.ensures
    ∙ ap (λ b. b && is_array_of (has_type as_integer) d) (sym long)
