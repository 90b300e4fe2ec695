use Rattle.std.proofs.Common.{◌≡◌, suc, ◌+◌, ◌^◌, Bool, if◌then◌else◌, get_or, arith, sym, ap, ◌∙◌}
use Rattle.std.proofs.lemmas.Nat.{one_shl}
use Rattle.gas_geom.specs.Gas.{holds}
use Rattle.gas_geom.specs.Planes.{set_at}
use Rattle.gas_geom.proofs.Holds.{set_of-lt}
use Rattle.gas_bits.proofs.Cells.{room}
use Rattle.gas_bits.proofs.states.state_at.Goals.{then-has_bit, else-has_bit}
use Rattle.gas_bits.proofs.states.state_at.Goals as goal

pub overflow_add-set : goal.overflow_add-set
overflow_add-set c =
    let low = set_of-lt c.loop-i.i (λ i. holds (get_or c.args.planes i 0) c.args.b) in
    record { fits = room c.loop-i.set c.loop-i.i (omega (arith, low)) (omega arith) }

pub loop-i-preserved : goal.loop-i-preserved
loop-i-preserved c =
    let i = c.loop-i.i in
    let planes = c.args.planes in
    let more : set_at (i + 1) planes c.args.b ≡ set_at i planes c.args.b + (if c.has_bit.result then 2 ^ i else 0) =
    ap (λ k. set_at k planes c.args.b) (let e : i + 1 ≡ suc i = omega arith in e)
    ∙ ap (λ (b : Bool). set_at i planes c.args.b + (if b then 2 ^ i else 0)) (sym c.has_bit.ensures.value) in
    elim c.if-has_bit.branch [
      | then-has_bit w ↦ omega (arith, rw w.if-has_bit.true at more, one_shl i 8 (omega arith))
      | else-has_bit w ↦ omega (arith, rw w.if-has_bit.false at more)
    ]
