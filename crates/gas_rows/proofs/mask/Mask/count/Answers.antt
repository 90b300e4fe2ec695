use Rattle.std.proofs.Common.{◌≡◌, ◌-◌, List, ℕ, ap, ◌∙◌, arith}
use Rattle.std.specs.Prelude.{count_by}
use Rattle.std.specs.List.{range_with_len}
use Rattle.gas_bits.specs.Words.{bit}
use Rattle.gas_rows.proofs.Masks.{count-cells}
use Rattle.gas_rows.proofs.mask.Mask.count.Goals as goal

pub returns : goal.returns
returns c = record {
  count =
      c.count_in.ensures.count
      ∙ ap (λ n. count_by (bit c.deref.result.now) (range_with_len 0 n)) (let e : c.self.inside.width - 0 ≡ c.self.inside.width = omega arith in e)
      ∙ ap (λ (ws : List ℕ). count_by (bit ws) (range_with_len 0 c.self.inside.width)) c.deref.ensures.value
      ∙ count-cells c.self.inside.width c.self.inside.words.items c.args.self.now c.self.view_is;
}
