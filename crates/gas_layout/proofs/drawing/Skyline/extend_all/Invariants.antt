use Rattle.std.proofs.Common.{◌≡◌, ℕ, ◌||◌, length, take}
use Rattle.std.specs.List.{list_any}
use Rattle.gas_layout.specs.Inner.Strips.{IsSkyline, passes, reaches}
use Rattle.gas_layout.proofs.drawing.Skyline.extend_all.Given as goal

abbrev pub invariant-loop-strip : goal.invariant-loop-strip
invariant-loop-strip l = record {
  sized : IsSkyline (length l.initial.self.columns.items) l.self;
  cells : (x y : ℕ) → passes l.self x y ≡ (passes l.initial.self x y || list_any (λ s. reaches s x y) (take l.strip-index l.strips));
}
