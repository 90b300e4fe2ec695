use Rattle.std.proofs.Common.{◌≡◌, take}
use Rattle.gas_rows.proofs.channel.Channel.copy.Given as goal

abbrev pub invariant-loop-mask : goal.invariant-loop-mask
invariant-loop-mask l = l.masks.items ≡ take l.mask-index l.mask-items
