use Rattle.std.proofs.Common.{Bor, List, ℕ, rules, tests}
use Rattle.std.proofs.lemmas.Iterator.{YieldsList-from_slice}
use Rattle.std.proofs.lemmas.Iterator.Search.{any_from_yields_List}
use Rattle.toml.specs.View.{table_view}
use Rattle.gas_scene.specs.Refusals.{has}
use Rattle.gas_scene.specs.declared.toml_values.ValueType.{ValueType}
use Rattle.gas_scene.proofs.scene_table.has_area.Goals as goal

pub returns : goal.returns
returns c =
    any_from_yields_List (λ (k : Bor (List ℕ) × ValueType). has k.0.now (table_view c.args.table.now)) _ _ _ c.any.ensures.ran (YieldsList-from_slice _ c.iter.ensures.rest) (λ x b q k. search (rules, tests))
