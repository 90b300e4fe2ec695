use Rattle.std.proofs.Common.{◌≡◌, ◌+◌, ◌*◌, ◌/◌, ◌%◌, ap, ap₂, ◌∙◌, get_or, arith}
use Rattle.gas_geom.specs.Gas.{holds}
use Rattle.gas_bits.specs.Planes.{has}
use Rattle.gas_bits.proofs.planes.four_planes_at.Goals as goal

pub returns : goal.returns
unfolding has
returns c = record {
  planes = λ i x hi hx within.
      let words = c.args.words.now in
      let at = i * c.args.words_each in
      ap (λ w. holds w (x % 64)) (c.loop-i.invariant.done i (x / 64) (omega (arith, hi, c.loop-i-test.false, c.loop-i.auto.i-end)) (omega (arith, hx)) (omega (arith, within)))
      ∙ ap₂ (λ k b. holds (get_or words (at + k) 0) b)
      (let e : c.args.j + x / 64 ≡ (64 * c.args.j + x) / 64 = omega arith in e) (let e : x % 64 ≡ (64 * c.args.j + x) % 64 = omega arith in e);
}
