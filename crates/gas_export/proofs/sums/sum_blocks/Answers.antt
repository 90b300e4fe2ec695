use Rattle.std.proofs.Common.{◌≡◌, ◌<◌, ◌+◌, ◌*◌, ◌/◌, ◌%◌, ℕ, zero, suc, pos, refl, ap, ap₂, sym, ◌∙◌, arith}
use Rattle.std.specs.Int.{div_ceil}
use Rattle.std.proofs.lemmas.Nat.{div-mul-add, mod-mul-add, mul-add-lt}
use Rattle.std.proofs.Math.Nat.{div-lt_iff_lt-mul, mod-lt, mul_comm}
use Rattle.gas_geom.specs.Lattice.{LatticeModel}
use Rattle.gas_blocks.specs.Blocks.{block_at}
use Rattle.gas_blocks.proofs.Ranges.{begins-within}
use Rattle.gas_export.specs.Planes.{lattice_in}
use Rattle.gas_export.specs.Sums.{sums_of}
use Rattle.gas_export.proofs.Written.{row-put, one-more}
use Rattle.gas_export.proofs.sums.sum_blocks.Goals as goal

positive : (k r n : ℕ) → k < r * n → 0 < n
positive k r zero lt = absurd (omega (arith, lt))
positive k r (suc n) lt = omega arith

swapped : (a b : ℕ) → a * b ≡ b * a
swapped a b = mul_comm a b

pub of-block-requires-clause-left : goal.of-block-requires-clause-left
of-block-requires-clause-left g c =
    let columns : c.div_ceil-columns.result ≡ div_ceil c.args.size.width c.args.width = c.div_ceil-columns.ensures ∙ ap (λ n. div_ceil n c.args.width) c.width.ensures.value in
    let some = positive c.loop-k.k c.div_ceil-rows.result c.div_ceil-columns.result (omega (arith, c.loop-k-test.true, c.loop-k.auto.k-end)) in
    begins-within c.args.size.width c.args.width (c.loop-k.k % c.div_ceil-columns.result) c.requires.some_columns (omega (arith, columns, mod-lt c.loop-k.k some))

pub of-block-requires-clause-top : goal.of-block-requires-clause-top
of-block-requires-clause-top g c =
    let rows : c.div_ceil-rows.result ≡ div_ceil c.args.size.height c.args.height = c.div_ceil-rows.ensures ∙ ap (λ n. div_ceil n c.args.height) c.height.ensures.value in
    let below : c.loop-k.k < c.div_ceil-rows.result * c.div_ceil-columns.result = omega (arith, c.loop-k-test.true, c.loop-k.auto.k-end) in
    let some = positive c.loop-k.k c.div_ceil-rows.result c.div_ceil-columns.result below in
    begins-within c.args.size.height c.args.height (c.loop-k.k / c.div_ceil-columns.result) c.requires.some_rows
    (omega (arith, rows, (div-lt_iff_lt-mul some).1 below))

pub loop-k-preserved : goal.loop-k-preserved
loop-k-preserved g c =
    let columns : c.div_ceil-columns.result ≡ div_ceil c.args.size.width c.args.width = c.div_ceil-columns.ensures ∙ ap (λ n. div_ceil n c.args.width) c.width.ensures.value in
    let rows : c.div_ceil-rows.result ≡ div_ceil c.args.size.height c.args.height = c.div_ceil-rows.ensures ∙ ap (λ n. div_ceil n c.args.height) c.height.ensures.value in
    let below : c.loop-k.k < c.div_ceil-rows.result * c.div_ceil-columns.result = omega (arith, c.loop-k-test.true, c.loop-k.auto.k-end) in
    one-more c.loop-k.invariant
    (row-put (pos 0) 4 4 (c.div_ceil-rows.result * c.div_ceil-columns.result) c.loop-k.k c.loop-k.sums c.copy_from_slice.new.self refl
    (c.loop-k.auto.sums ∙ c.requires.sums ∙ ap₂ (λ (a b : ℕ). a * b * 4) (sym rows) (sym columns)) c.copy_from_slice.auto.self below) below
    (c.copy_from_slice.ensures.after ∙ c.numbers_of.ensures.value ∙ ap sums_of c.of-block.ensures.block)

pub returns : goal.returns
returns g c = record {
  sums = λ col row in_columns in_rows.
      let lattice : LatticeModel = lattice_in g.G.Gas.rules c.args.size.width c.args.size.height c.args.solid.now c.args.states.now in
      let n : ℕ = div_ceil c.args.size.width c.args.width in
      let columns : c.div_ceil-columns.result ≡ n = c.div_ceil-columns.ensures ∙ ap (λ n. div_ceil n c.args.width) c.width.ensures.value in
      let rows : c.div_ceil-rows.result ≡ div_ceil c.args.size.height c.args.height = c.div_ceil-rows.ensures ∙ ap (λ n. div_ceil n c.args.height) c.height.ensures.value in
      let all : c.div_ceil-rows.result * c.div_ceil-columns.result ≡ n * div_ceil c.args.size.height c.args.height = ap₂ (λ (a b : ℕ). a * b) rows columns ∙ swapped (div_ceil c.args.size.height c.args.height) n in
      c.loop-k.invariant.done (row * n + col) (omega (arith, mul-add-lt row n col (div_ceil c.args.size.height c.args.height) in_rows in_columns, all, c.loop-k-test.false, c.loop-k.auto.k-end))
      ∙ ap₂ (λ (r k : ℕ). sums_of (block_at g.G.Gas.rules lattice c.args.width c.args.height r k))
      (ap (λ (m : ℕ). (row * n + col) / m) columns ∙ div-mul-add row n col in_columns)
      (ap (λ (m : ℕ). (row * n + col) % m) columns ∙ mod-mul-add row n col in_columns);
}
