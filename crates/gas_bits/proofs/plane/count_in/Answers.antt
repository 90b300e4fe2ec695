use Rattle.std.proofs.Common.{◌*◌, ◌+◌, ◌-◌, min, arith}
use Rattle.gas_bits.specs.Words.{bit}
use Rattle.gas_bits.proofs.Ones.{count-le, count-more}
use Rattle.gas_bits.proofs.plane.count_in.Goals as goal

pub loop-j-preserved : goal.loop-j-preserved
loop-j-preserved c =
    count-more c.args.words.now c.args.from c.args.to c.loop-j.j c.loop-j.total c.ones_in-total.result _ _ c.requires.order
    (omega arith) (omega (arith, c.div_ceil-j-end.ensures)) (omega (arith, c.max.ensures)) c.min-end.ensures c.loop-j.invariant c.ones_in-total.ensures

pub overflow_add-total : goal.overflow_add-total
overflow_add-total c =
    omega (arith, loop-j-preserved c, count-le (bit c.args.words.now) c.args.from (min c.args.to (64 * (c.loop-j.j + 1)) - c.args.from))
