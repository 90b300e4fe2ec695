use Rattle.std.proofs.Common.{◌≡◌, sym, ◌∙◌, rules}
use Rattle.gas_scene.proofs.Maps.{row_at-view}
use Rattle.gas_scene.proofs.map_form.row.Goals as goal

pub returns : goal.returns
returns c =
    let text : c.as_bytes.result.now ≡ c.text_of.result.now = search rules in
    text ∙ c.text_of.ensures ∙ sym (row_at-view c.args.rows.now c.args.r c.index-rows-r.result c.requires c.index-rows-r.is)
