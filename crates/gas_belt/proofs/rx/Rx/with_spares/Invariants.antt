use Rattle.std.proofs.Common.{◌≡◌}
use Rattle.gas_belt.proofs.rx.Rx.with_spares.Given as goal

abbrev pub invariant-loop : goal.invariant-loop
invariant-loop g l = l.self ≡ record l.fn.self { held = l.counter; most = l.fn.count }
