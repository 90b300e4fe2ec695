use Rattle.std.proofs.Common.{◌<◌, ◌^◌, length, subst, sym, arith}
use Rattle.gas_layout.proofs.Filled.{set_of-filled-below}
use Rattle.gas_layout.proofs.filling.Filling.fill_row.Goals as goal

pub add_direction-requires-clause-below : goal.add_direction-requires-clause-below
add_direction-requires-clause-below g c = λ k within.
    subst (λ n. n < 2 ^ c.loop-i.i) (sym (c.loop-i.invariant k (omega (arith, within)))) (set_of-filled-below c.loop-i.i c.args.self.seed c.args.self.rate (length c.args.states.now) k c.args.y)
