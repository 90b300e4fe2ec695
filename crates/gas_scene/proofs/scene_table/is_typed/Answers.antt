use Rattle.std.proofs.Common.{Bor, List, ℕ, true, ap, ◌∙◌, rules, tests}
use Rattle.std.specs.Option.{option_map_or}
use Rattle.std.specs.Slice.Iter.{iter_rest}
use Rattle.std.proofs.lemmas.Iterator.{YieldsList-from_slice}
use Rattle.std.proofs.lemmas.Iterator.Consumers.{YieldsList-from_chain}
use Rattle.std.proofs.lemmas.Iterator.Search.{all_from_yields_List}
use Rattle.toml.specs.Data.{get_member}
use Rattle.toml.specs.View.{table_view}
use Rattle.gas_scene.specs.Keys.{is_typed}
use Rattle.gas_scene.specs.Inner.Models.{is_of}
use Rattle.gas_scene.specs.declared.toml_values.ValueType.{ValueType}
use Rattle.gas_scene.proofs.scene_table.is_typed.Goals as goal

pub returns : goal.returns
unfolding is_typed
returns c =
    all_from_yields_List (λ (k : Bor (List ℕ) × ValueType). option_map_or (is_of k.1) (get_member k.0.now (table_view c.args.table.now)) true) _ _ _ c.all.ensures.ran
    (YieldsList-from_chain (YieldsList-from_slice _ (ap iter_rest c.chain.ensures.first ∙ c.iter.ensures.rest))
    (YieldsList-from_slice _ (ap iter_rest c.chain.ensures.second ∙ c.iter-2.ensures.rest)) c.chain.ensures.first_done c.chain.ensures.second_done)
    (λ x b q k. search (rules, tests))
