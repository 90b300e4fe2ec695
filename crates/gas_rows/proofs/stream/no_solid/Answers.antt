use Rattle.std.proofs.Common.{◌≡◌, ℕ, false, take, replicate, arith}
use Rattle.std.proofs.lemmas.List.{places}
use Rattle.gas_geom.proofs.Holds.{holds-zero}
use Rattle.gas_bits.specs.Words.{bit}
use Rattle.gas_bits.proofs.Words.{bit-is, bit-past}
use Rattle.gas_rows.proofs.stream.no_solid.Goals as goal

no_bit : (n most x : ℕ) → bit (take n (replicate most 0)) x ≡ false
no_bit n most x = grind (arith, places, bit-is, bit-past, holds-zero)

pub returns-clause-none : goal.returns-clause-none
returns-clause-none c = no_bit c.args.words_each 1024
