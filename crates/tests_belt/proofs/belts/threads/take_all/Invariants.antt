use Rattle.std.proofs.Common.{◌≡◌}
use Rattle.tests_belt.proofs.belts.threads.take_all.Given as goal

abbrev pub invariant-loop-n : goal.invariant-loop-n
invariant-loop-n g l = l.rx.belt ≡ l.initial.rx.belt
