use Rattle.std.proofs.Common.{◌+◌, ◌<◌, ℕ, Bool, List, [], length, take, ap, ◌∙◌, sym, subst, arith}
use Rattle.std.specs.Prelude.{sum_by, count_by}
use Rattle.std.proofs.lemmas.List.Sums.{sum_by_more}
use Rattle.gas_geom.specs.Channel.{ChannelModel}
use Rattle.gas_rows.proofs.channel.Channel.count_solid.Goals as goal

pub loop-y-preserved : goal.loop-y-preserved
loop-y-preserved c =
    let rows = c.args.self.now.solid in
    let there : c.loop-y.y < length rows =
    subst (λ (h : ChannelModel). c.loop-y.y < length h.solid) c.self.view_is
    (omega (arith, c.self.invariant.whole.high, c.height-y-end.ensures.value)) in
    let of_row : List Bool → ℕ = λ row. count_by (λ b. b) row in
    record {
      so_far = ap (λ t. t + c.from-total.result) c.loop-y.invariant.so_far
          ∙ ap (λ p. sum_by of_row (take c.loop-y.y rows) + p) (c.from-total.ensures ∙ c.count.ensures.count ∙ ap of_row c.mask.ensures.row)
          ∙ sym (sum_by_more of_row rows c.loop-y.y [] there);
      bounded = omega (arith, c.from-total.ensures, c.count.type_inv, c.loop-y.invariant.bounded);
    }
