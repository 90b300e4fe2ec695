use Rattle.std.proofs.Common.{ap, sym, ◌∙◌, rules, tests}
use Rattle.std.proofs.lemmas.Iterator.{YieldsList-from_slice}
use Rattle.std.proofs.lemmas.Iterator.Search.{all_from_yields_List}
use Rattle.toml.specs.Data.{as_str}
use Rattle.toml.specs.View.{view}
use Rattle.toml.specs.declared.value.Value.{Value}
use Rattle.gas_scene.specs.declared.toml_values.ValueType.{ValueType}
use Rattle.gas_scene.specs.Keys.{has_type, is_tuple}
use Rattle.gas_scene.specs.Inner.Models.{is_of}
use Rattle.gas_scene.proofs.Values.{is_array_of-elements}
use Rattle.gas_scene.proofs.toml_values.ValueType.is_of.Goals as goal

pub returns-then-is_array : goal.returns-then-is_array
returns-then-is_array c =
    (all_from_yields_List (λ (v : Value). has_type as_str (view v)) _ _ _ c.all.ensures.ran (YieldsList-from_slice _ c.iter.ensures.rest) (λ x b q k. search (rules, tests)))
    ∙ is_array_of-elements (has_type as_str) c.elements.result.now _ (sym c.is_array.ensures ∙ c.if-is_array.true) c.elements.ensures
    ∙ ap (λ (t : ValueType). is_of t (view c.args.value.now)) (sym c.in-Texts.is)

pub returns-then-is_array-2 : goal.returns-then-is_array-2
returns-then-is_array-2 c =
    (all_from_yields_List (λ (v : Value). is_tuple c.in-Tuples.n (view v)) _ _ _ c.all-then-is_array-2.ensures.ran (YieldsList-from_slice _ c.iter-then-is_array-2.ensures.rest) (λ x b q k. search (rules, tests)))
    ∙ is_array_of-elements (is_tuple c.in-Tuples.n) c.elements-then-is_array-2.result.now _ (sym c.is_array-in-Tuples.ensures ∙ c.if-is_array-2.true) c.elements-then-is_array-2.ensures
    ∙ ap (λ (t : ValueType). is_of t (view c.args.value.now)) (sym c.in-Tuples.is)
