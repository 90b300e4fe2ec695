use Rattle.std.proofs.Common.{◌∙◌, ◌++◌, [], ◌∷◌, map, ap, ap₂, sym, arith, List}
use Rattle.std.proofs.lemmas.List.{map-append}
use Rattle.std.proofs.lemmas.List.FromFn.{map-range_with_len_more}
use Rattle.toml.specs.Data.{Data, string}
use Rattle.toml.specs.View.{view}
use Rattle.toml.specs.declared.value.Value.{String}
use Rattle.toml.proofs.Views.{view-String}
use Rattle.gas_cells.specs.Cells.{row_cells}
use Rattle.gas_scene.proofs.checkpoint.row_values.Goals as goal

pub loop-y-preserved : goal.loop-y-preserved
loop-y-preserved g c =
    let l = c.args.lattice.now in
    let y = c.loop-y.y in
    let row = c.in_ok-row_text.field-0 in
    ap (map view) c.in_ok-push.ensures.items
    ∙ map-append view c.loop-y.rows.items (String row ∷ [])
    ∙ ap₂ (λ (ds : List Data) (d : Data). ds ++ d ∷ []) c.loop-y.invariant (view-String row ∙ ap string c.in_ok-row_text.ensures)
    ∙ sym (map-range_with_len_more (λ y. string (row_cells l.channel l.rows y)) 0 y y (omega arith))
