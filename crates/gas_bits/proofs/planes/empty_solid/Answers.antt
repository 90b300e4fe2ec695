use Rattle.std.proofs.Common.{arith}
use Rattle.std.proofs.lemmas.Bool.Decides.{nat_tests}
use Rattle.gas_bits.specs.Words.{bit}
use Rattle.gas_bits.specs.Planes.{has, state}
use Rattle.gas_bits.proofs.Scatters.{state-masked}
use Rattle.gas_bits.proofs.planes.empty_solid.Goals as goal

pub loop-j-preserved : goal.loop-j-preserved
unfolding has bit
loop-j-preserved c i y hi h = grind (arith, nat_tests)

pub returns : goal.returns
unfolding state
returns c = record {
  emptied = λ y h. state-masked _ c.args.words_each c.args.dirs y (λ i. has c.args.words.now c.args.words_each i y) (bit c.args.solid.now y)
      (λ i hi. let e = c.loop-j.invariant i y hi h in grind (arith, nat_tests));
}
