use Rattle.std.proofs.Common.{◌<◌, ℕ, ◌*◌, ap, ◌∙◌, arith}
use Rattle.gas_bits.specs.Words.{words_in}
use Rattle.gas_bits.specs.Planes.{state}
use Rattle.gas_export.specs.Planes.{row_words}
use Rattle.gas_export.proofs.Written.{row-within, row-put, one-more}
use Rattle.gas_export.proofs.bytes.unpack.Goals as goal

pub slice_bounds-cells-end : goal.slice_bounds-cells-end
slice_bounds-cells-end c =
    let y : ℕ = c.loop-y.y in
    omega (arith, c.loop-y.auto.bytes, c.requires.bytes, c.width-width.ensures.value, ap (λ (k : ℕ). y * k) c.width-width.ensures.value, row-within c.args.size.width c.args.size.height y (omega (arith, c.loop-y-test.true, c.height-rows.ensures.value)))

pub loop-y-preserved : goal.loop-y-preserved
loop-y-preserved c =
    let w : ℕ = c.args.size.width in
    let h : ℕ = c.args.size.height in
    let y : ℕ = c.loop-y.y in
    let in_rows : y < h = omega (arith, c.loop-y-test.true, c.height-rows.ensures.value) in
    one-more c.loop-y.invariant (row-put 0 c.width-width.result w h y c.loop-y.bytes c.unpack_row.new.bytes c.width-width.ensures.value (c.loop-y.auto.bytes ∙ c.requires.bytes) c.unpack_row.auto.bytes in_rows) in_rows
    (λ x lt. c.unpack_row.ensures.unpacked x (omega (arith, lt, c.width.ensures.value))
    ∙ ap (λ (k : ℕ). state c.row_at-row.result.now (words_in k) c.args.planes x) c.width.ensures.value
    ∙ ap (λ ws. state ws (words_in w) c.args.planes x) (c.row_at-row.ensures.part ∙ ap (λ (k : ℕ). row_words (c.args.planes * k) c.args.words.now y) c.words_each.ensures.value))
