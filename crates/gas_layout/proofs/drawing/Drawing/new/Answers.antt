use Rattle.std.proofs.Common.{arith}
use Rattle.gas_layout.specs.Inner.Strips.{strips_of}
use Rattle.gas_layout.proofs.Strips.{strips-none, AreStrips-none, drawn-none}
use Rattle.gas_layout.proofs.drawing.Drawing.new.Goals as goal

pub invariant_of-result : goal.invariant_of-result
invariant_of-result c = record {
  high = omega (arith, c.loop.invariant.high, c.loop-test.false, c.loop.auto.counter-end, c.height-end.ensures.value);
  strips = AreStrips-none (strips_of c.loop.rows.items) (strips-none c.loop.rows.items c.loop.invariant.empty) c.args.size.width;
}

pub returns : goal.returns
returns c = record {
  blank = drawn-none (strips_of c.loop.rows.items) (strips-none c.loop.rows.items c.loop.invariant.empty) c.args.size.width c.args.size.height;
}
