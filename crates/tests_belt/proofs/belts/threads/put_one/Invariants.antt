use Rattle.std.proofs.Common.{◌≡◌}
use Rattle.tests_belt.proofs.belts.threads.put_one.Given as goal

abbrev pub invariant-loop : goal.invariant-loop
invariant-loop g l = l.tx.belt ≡ l.initial.tx.belt
