use Rattle.gas_bits.proofs.Ones.{ones-between}
use Rattle.gas_bits.proofs.plane.ones_in.Goals as goal

pub returns : goal.returns
returns c =
    ones-between c.args.word c.clear_above.result c.args.from c.args.to c.clear_above.type_inv c.requires.order c.requires.some c.requires.within c.clear_above.ensures
