use Rattle.std.proofs.Common.{◌≡◌, ◌⊎◌, ◌^◌, Some, inl, ap, sym, ◌∙◌, subst}
use Rattle.std.specs.Prelude.{Result, Err, IfErr}
use Rattle.std.proofs.lemmas.Result.{err_from_is_err_and}
use Rattle.gas_scene.specs.declared.catalog.AnyLattice.{AnyLattice}
use Rattle.gas_scene.specs.declared.error.SceneError.{SceneError}
use Rattle.gas_scene.specs.declared.error.SceneError.TheVariants.{Memory}
use Rattle.gas_scene.specs.Catalog.{rules_of}
use Rattle.gas_scene.specs.Refusals.{bad_cell, map_refusal}
use Rattle.gas_scene.specs.Inner.Models.{texts_of}
use Rattle.gas_scene.specs.Inner.Maps.{shape_refusal}
use Rattle.gas_scene.proofs.Maps.{as_result-none, as_result-some, IsMap-shaped, map_refusal-shape, map_refusal-cells}
use Rattle.gas_scene.proofs.map_form.lattice.Goals as goal

pub returns-in_err-check_shape-clause-refused : goal.returns-in_err-check_shape-clause-refused
returns-in_err-check_shape-clause-refused c =
    let rows = texts_of c.args.rows.now in
    let states = 2 ^ (rules_of c.args.gas).dirs in
    let p = err_from_is_err_and c.from_residual.result c.from_residual.ensures.1 in
    subst (λ (r : Result AnyLattice SceneError). IfErr r (λ e. (map_refusal c.args.most states rows ≡ Some e) ⊎ (e ≡ Memory))) (sym (p.1 ∙ ap Err p.2))
    (inl (map_refusal-shape c.args.most states rows _ (as_result-some (shape_refusal c.args.most rows) _ (sym c.check_shape.ensures ∙ c.in_err-check_shape.was))))

pub build-requires : goal.build-requires
build-requires c =
    IsMap-shaped c.args.most (texts_of c.args.rows.now) c.requires (as_result-none (shape_refusal c.args.most (texts_of c.args.rows.now)) (sym c.check_shape.ensures ∙ c.in_ok-check_shape.was))

pub check_cells-requires : goal.check_cells-requires
check_cells-requires c =
    IsMap-shaped c.args.most (texts_of c.args.rows.now) c.requires (as_result-none (shape_refusal c.args.most (texts_of c.args.rows.now)) (sym c.check_shape.ensures ∙ c.in_ok-check_shape.was))

pub returns-in_err-check_cells-in-Err-clause-refused : goal.returns-in_err-check_cells-in-Err-clause-refused
returns-in_err-check_cells-in-Err-clause-refused c =
    let rows = texts_of c.args.rows.now in
    let states = 2 ^ (rules_of c.args.gas).dirs in
    let shaped = as_result-none (shape_refusal c.args.most rows) (sym c.check_shape.ensures ∙ c.in_ok-check_shape.was) in
    let p = err_from_is_err_and c.from_residual-in_err-check_cells-in-Err.result c.from_residual-in_err-check_cells-in-Err.ensures.1 in
    subst (λ (r : Result AnyLattice SceneError). IfErr r (λ e. (map_refusal c.args.most states rows ≡ Some e) ⊎ (e ≡ Memory))) (sym (p.1 ∙ ap Err p.2))
    (inl (map_refusal-cells c.args.most states rows shaped ∙ ap (λ n. bad_cell n rows) (sym c.states.ensures.number)
    ∙ as_result-some (bad_cell c.states.result rows) _ (sym c.check_cells.ensures ∙ c.in_err-check_cells-in-Err.was)))

pub returns-in-Ok-clause-accepted : goal.returns-in-Ok-clause-accepted
returns-in-Ok-clause-accepted c =
    let rows = texts_of c.args.rows.now in
    let shaped = as_result-none (shape_refusal c.args.most rows) (sym c.check_shape.ensures ∙ c.in_ok-check_shape.was) in
    map_refusal-cells c.args.most (2 ^ (rules_of c.args.gas).dirs) rows shaped ∙ c.in-Ok.ensures.accepted
