use Rattle.std.proofs.Common.{◌≡◌}
use Rattle.tests_whole.proofs.reference.set_row.Given as goal

-- the channel stays
abbrev pub invariant-loop-x : goal.invariant-loop-x
invariant-loop-x g l = l.next.channel ≡ l.initial.next.channel
