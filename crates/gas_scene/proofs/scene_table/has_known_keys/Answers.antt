use Rattle.std.proofs.Common.{sym, ◌∙◌, rules}
use Rattle.gas_scene.proofs.Values.{all_known}
use Rattle.gas_scene.proofs.scene_table.has_known_keys.Goals as goal

pub returns-then-integer_at-eq2 : goal.returns-then-integer_at-eq2
returns-then-integer_at-eq2 c = rw (sym (c.are_known.ensures ∙ all_known c.args.table.now.entries) ∙ c.if-are_known.true) (search rules)

pub returns-else-integer_at-eq2 : goal.returns-else-integer_at-eq2
returns-else-integer_at-eq2 c = rw (sym (c.are_known.ensures ∙ all_known c.args.table.now.entries) ∙ c.if-are_known.true) (search rules)

pub returns-else-are_known : goal.returns-else-are_known
returns-else-are_known c = rw (sym (c.are_known.ensures ∙ all_known c.args.table.now.entries) ∙ c.if-are_known.false) c.if-are_known.false
