use Rattle.std.proofs.Common.{◌∙◌, ◌%◌, ◌/◌, ap, arith}
use Rattle.std.specs.Int.Bits.{bit_and}
use Rattle.std.proofs.lemmas.Simd.{get_or-zip2}
use Rattle.gas_geom.specs.Gas.{holds}
use Rattle.gas_geom.proofs.Holds.{holds-and}
use Rattle.gas_geom.proofs.word.U64x4Word.and.Goals as goal

pub returns : goal.returns
returns c = record {
  bits = λ b lt.
      ap (λ w. holds w (b % 64)) (get_or-zip2 bit_and c.args.self c.args.other (b / 64) 0 0 0 (omega (arith, c.fits-self.0)) (omega (arith, c.fits-other.0)))
      ∙ holds-and _ _ (b % 64);
}
