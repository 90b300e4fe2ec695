use Rattle.std.proofs.Common.{◌≡◌, replicate, false}
use Rattle.gas_rows.proofs.channel.Channel.free.Given as goal

abbrev pub invariant-loop : goal.invariant-loop
invariant-loop l = l.masks.items ≡ replicate l.counter (replicate l.size.width false)
