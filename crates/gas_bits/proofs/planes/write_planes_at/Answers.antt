use Rattle.std.proofs.Common.{arith}
use Rattle.std.proofs.lemmas.Bool.Decides.{nat_tests}
use Rattle.gas_bits.proofs.Cells.{has-set, place_in}
use Rattle.gas_bits.proofs.planes.write_planes_at.Goals as goal

pub loop-i-preserved : goal.loop-i-preserved
loop-i-preserved c k y h =
    let within = place_in c.args.words_each c.args.dirs c.loop-i.i c.args.j (omega arith) (omega arith) in
    grind (arith, nat_tests, has-set)
