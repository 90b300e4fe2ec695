use Rattle.std.proofs.Common.{◌≡◌, ◌-◌, ◌*◌, min, count_by}
use Rattle.std.specs.List.{range_with_len}
use Rattle.gas_bits.specs.Words.{bit}
use Rattle.gas_bits.proofs.plane.count_in.Given as goal

-- the cells of the words so far are counted
abbrev pub invariant-loop-j : goal.invariant-loop-j
invariant-loop-j l = l.total ≡ count_by (bit l.words) (range_with_len l.from (min l.to (64 * l.j) - l.from))
