use Rattle.std.proofs.Common.{◌<◌, ℕ, List, length, sym, ap, ap₂, ◌∙◌, arith}
use Rattle.gas_scene.specs.Refusals.{has_wrong_length}
use Rattle.gas_scene.specs.Inner.Models.{texts_of}
use Rattle.gas_scene.specs.Inner.Maps.{as_result}
use Rattle.gas_scene.proofs.Maps.{length-rows, row_length-at, row_length-none}
use Rattle.gas_scene.proofs.map_form.check_lengths.Goals as goal

pub returns-then-has_wrong_length : goal.returns-then-has_wrong_length
returns-then-has_wrong_length c =
    let rows = texts_of c.args.rows.now in
    let within : c.loop-r.r < length rows = omega (arith, c.loop-r-test.true, length-rows c.args.rows.now) in
    sym (ap as_result (row_length-at c.args.most rows c.loop-r.r within c.loop-r.invariant
    (ap₂ (λ (n : ℕ) (r : List ℕ). has_wrong_length c.args.most n r) (ap (λ (r : List ℕ). length r) (sym c.row-first.ensures)) (sym c.row.ensures)
    ∙ sym c.has_wrong_length.ensures ∙ c.if-has_wrong_length.true)))

pub returns : goal.returns
returns c =
    sym (ap as_result (row_length-none c.args.most (texts_of c.args.rows.now)
    (λ k h. c.loop-r.invariant k (omega (arith, h, c.loop-r-test.false, length-rows c.args.rows.now)))))
