use Rattle.std.proofs.Common.{Bor, List, ℕ, ap, ◌∙◌, rules, tests}
use Rattle.std.specs.Str.{bytes_eq}
use Rattle.std.specs.Slice.Iter.{iter_rest}
use Rattle.std.proofs.lemmas.Iterator.{YieldsList-from_slice}
use Rattle.std.proofs.lemmas.Iterator.Consumers.{YieldsList-from_chain}
use Rattle.std.proofs.lemmas.Iterator.Search.{any_from_yields_List}
use Rattle.gas_scene.specs.Inner.Models.{is_known}
use Rattle.gas_scene.specs.declared.toml_values.ValueType.{ValueType}
use Rattle.gas_scene.proofs.scene_table.is_known.Goals as goal

pub returns : goal.returns
unfolding is_known
returns c =
    any_from_yields_List (λ (k : Bor (List ℕ) × ValueType). bytes_eq c.args.key.now k.0.now) _ _ _ c.any.ensures.ran
    (YieldsList-from_chain (YieldsList-from_slice _ (ap iter_rest c.chain.ensures.first ∙ c.iter.ensures.rest))
    (YieldsList-from_slice _ (ap iter_rest c.chain.ensures.second ∙ c.iter-2.ensures.rest)) c.chain.ensures.first_done c.chain.ensures.second_done)
    (λ x b q k. search (rules, tests))
