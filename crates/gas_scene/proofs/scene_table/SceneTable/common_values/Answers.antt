use Rattle.std.proofs.Common.{sym, ◌∙◌, arith}
use Rattle.std.proofs.lemmas.Int.{ints}
use Rattle.gas_scene.proofs.scene_table.SceneTable.common_values.Goals as goal

pub returns-clause-few : goal.returns-clause-few
returns-clause-few c = grind (arith, ints, c.unsigned_abs.ensures.value, sym c.has_common_numbers.ensures ∙ c.if-not-has_common_numbers.false)
