use Rattle.std.proofs.Common.{◌≡◌, ℕ, ◌||◌, ◌&&◌, false, nat_le, nat_lt, get_or, if◌then◌else◌}
use Rattle.gas_layout.proofs.drawing.mark_band.Given as goal

abbrev pub invariant-loop-x : goal.invariant-loop-x
invariant-loop-x l =
    (k : ℕ) → get_or l.solid k false
    ≡ (if nat_le l.from k && nat_lt k l.x then nat_lt l.y (get_or l.depths k 0) || l.whole else get_or l.initial.solid k false)
