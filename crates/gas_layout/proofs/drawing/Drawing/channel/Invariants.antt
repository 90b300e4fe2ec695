use Rattle.std.proofs.Common.{◌≡◌, ℕ, length}
use Rattle.gas_layout.specs.Inner.Steps.{channel_before}
use Rattle.gas_layout.specs.Inner.Strips.{IsSkyline, passes, is_reached, is_drawn, strips_of}
use Rattle.gas_layout.proofs.drawing.Drawing.channel.Given as goal

abbrev pub invariant-loop-y : goal.invariant-loop-y
invariant-loop-y l = record {
  sized : IsSkyline l.self-inside.size.width l.skyline;
  wide : length l.solid.items ≡ l.self-inside.size.width;
  reached : (x v : ℕ) → passes l.skyline x v ≡ is_reached (strips_of l.self-inside.rows.items) l.y x v;
  cells : l.channel ≡ channel_before l.self-inside.size.width l.self-inside.size.height (is_drawn (strips_of l.self-inside.rows.items)) l.y;
}
