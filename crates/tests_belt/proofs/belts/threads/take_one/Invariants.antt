use Rattle.std.proofs.Common.{◌≡◌}
use Rattle.tests_belt.proofs.belts.threads.take_one.Given as goal

abbrev pub invariant-loop : goal.invariant-loop
invariant-loop g l = l.rx.belt ≡ l.initial.rx.belt
