use Rattle.std.proofs.Common.{◌≡◌, ◌∙◌, ap, subst, rules, to_z, of_z, w64, FitsSigned}
use Rattle.std.specs.Fmt.{decimal, styled_decimal, styled_signed_decimal}
use Rattle.std.proofs.lemmas.Int.{to_z-of_z}
use Rattle.gas_tool_io.specs.Inner.Sink.{Adds}
use Rattle.gas_tool_io.proofs.Lines.{padded-right, signed-right, table_made}
use Rattle.gas_tool_io.proofs.text.put_block.Goals as goal

pub returns : goal.returns
returns g c =
    let b = c.args.block in
    let px : FitsSigned w64 b.px = search rules in
    let py : FitsSigned w64 b.py = search rules in
    let is_px : to_z w64 (of_z w64 b.px) ≡ b.px = search (rules, to_z-of_z) in
    let is_py : to_z w64 (of_z w64 b.py) ≡ b.py = search (rules, to_z-of_z) in
    subst (Adds _ _ _ _) (table_made _ _ _ _ _ _ _ _ _ _ _ _
    (ap (λ s. styled_decimal s b.col) c.laid_out.ensures ∙ padded-right 5 (decimal b.col))
    (ap (λ s. styled_decimal s b.row) c.laid_out-2.ensures ∙ padded-right 5 (decimal b.row))
    (ap (λ s. styled_decimal s b.fluid) c.laid_out-3.ensures ∙ padded-right 8 (decimal b.fluid))
    (ap (λ s. styled_decimal s b.particles) c.laid_out-4.ensures ∙ padded-right 9 (decimal b.particles))
    (ap (styled_signed_decimal c.laid_out-5.result) is_px ∙ ap (λ s. styled_signed_decimal s b.px) c.laid_out-5.ensures ∙ signed-right 10 b.px)
    (ap (styled_signed_decimal c.laid_out-6.result) is_py ∙ ap (λ s. styled_signed_decimal s b.py) c.laid_out-6.ensures ∙ signed-right 10 b.py)) c.put_line.ensures
