use Rattle.std.proofs.Common.{◌≡◌, ℕ, ◌||◌, ◌&&◌, nat_le, nat_lt, get_or}
use Rattle.gas_layout.proofs.drawing.extend.Given as goal

abbrev pub invariant-loop-x : goal.invariant-loop-x
invariant-loop-x l =
    (k y : ℕ) → nat_lt y (get_or l.depths k 0) ≡ (nat_lt y (get_or l.initial.depths k 0) || ((nat_le l.strip.start k && nat_lt k l.x) && nat_lt y l.strip.bottom))
