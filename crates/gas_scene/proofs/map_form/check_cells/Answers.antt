use Rattle.std.proofs.Common.{◌<◌, length, sym, ap, ◌∙◌, arith}
use Rattle.gas_cells.specs.Reading.{bad_column}
use Rattle.gas_scene.specs.Inner.Models.{texts_of}
use Rattle.gas_scene.specs.Inner.Maps.{as_result}
use Rattle.gas_scene.proofs.Maps.{length-rows, bad_cell-at, bad_cell-none}
use Rattle.gas_scene.proofs.map_form.check_cells.Goals as goal

pub returns-in-Some : goal.returns-in-Some
returns-in-Some c =
    let rows = texts_of c.args.rows.now in
    let within : c.loop-r.r < length rows = omega (arith, c.loop-r-test.true, length-rows c.args.rows.now) in
    sym (ap as_result (bad_cell-at c.args.states rows c.loop-r.r c.in-Some.c within c.loop-r.invariant
    (ap (bad_column c.args.states) (sym c.row.ensures) ∙ sym c.bad_column.ensures.value ∙ c.in-Some.is)))

pub returns : goal.returns
returns c =
    sym (ap as_result (bad_cell-none c.args.states (texts_of c.args.rows.now)
    (λ k h. c.loop-r.invariant k (omega (arith, h, c.loop-r-test.false, length-rows c.args.rows.now)))))
