use Rattle.std.proofs.Common.{◌-◌, arith}
use Rattle.std.proofs.lemmas.Bool.Decides.{nat_tests}
use Rattle.gas_bits.specs.Planes.{has}
use Rattle.gas_bits.proofs.Cells.{has-set, place_in}
use Rattle.gas_bits.proofs.planes.clear_planes_past.Goals as goal

pub loop-i-preserved : goal.loop-i-preserved
unfolding has
loop-i-preserved c k y h =
    let n = c.words_for-words_each.result in
    let within = place_in n c.args.dirs c.loop-i.i (n - 1) (omega arith) (omega arith) in
    grind (arith, nat_tests, has-set)
