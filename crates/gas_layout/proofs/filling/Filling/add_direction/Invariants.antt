use Rattle.std.proofs.Common.{◌≡◌, ℕ, ◌+◌, ◌^◌, ◌<◌, ◌≤◌, length, get_or, if◌then◌else◌}
use Rattle.gas_layout.specs.Layout.{filled}
use Rattle.gas_layout.proofs.filling.Filling.add_direction.Given as goal

abbrev pub invariant-loop-x : goal.invariant-loop-x
invariant-loop-x l = record {
  done : (k : ℕ) → k < l.x → get_or l.states k 0 ≡ get_or l.initial.states k 0 + (if filled l.self.seed l.self.rate (length l.initial.states) k l.y l.i then 2 ^ l.i else 0);
  left : (k : ℕ) → l.x ≤ k → get_or l.states k 0 ≡ get_or l.initial.states k 0;
}
