use Rattle.std.proofs.Common.{◌+◌, ◌<◌, ℕ, List, [], length, take, ap, ◌∙◌, sym, subst, arith}
use Rattle.std.specs.Prelude.{sum_by}
use Rattle.std.proofs.lemmas.List.Sums.{sum_by_more}
use Rattle.gas_geom.specs.Gas.{particles}
use Rattle.gas_geom.specs.Lattice.{LatticeModel}
use Rattle.gas_rows.proofs.lattice.Lattice.count.Goals as goal

pub loop-y-preserved : goal.loop-y-preserved
loop-y-preserved g c =
    let rows = c.args.self.now.rows in
    let there : c.loop-y.y < length rows =
    subst (λ (l : LatticeModel). c.loop-y.y < length l.rows) c.self.view_is
    (omega (arith, c.self.invariant.high, c.size.ensures.height, c.height-y-end.ensures.value)) in
    let of_row : List ℕ → ℕ = λ row. sum_by (particles g.G.Gas.rules) row in
    record {
      so_far = ap (λ t. t + c.from-total.result) c.loop-y.invariant.so_far
          ∙ ap (λ p. sum_by of_row (take c.loop-y.y rows) + p) (c.from-total.ensures ∙ c.count.ensures.count ∙ ap of_row c.row.ensures.row)
          ∙ sym (sum_by_more of_row rows c.loop-y.y [] there);
      bounded = omega (arith, c.from-total.ensures, c.count.type_inv, c.loop-y.invariant.bounded);
    }
