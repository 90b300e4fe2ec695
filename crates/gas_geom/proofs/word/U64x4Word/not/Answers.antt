use Rattle.std.proofs.Common.{◌∙◌, ◌%◌, ◌/◌, ◌<◌, length, get_or, ap, arith}
use Rattle.std.proofs.lemmas.Simd.{Each1-get_or}
use Rattle.std.proofs.lemmas.List.{get_or-map}
use Rattle.gas_geom.specs.Gas.{holds}
use Rattle.gas_geom.proofs.Holds.{holds-not}
use Rattle.gas_geom.proofs.word.U64x4Word.not.Goals as goal

pub returns : goal.returns
returns c = record {
  bits = λ b lt.
      let within : b / 64 < length c.args.self = omega (arith, c.fits-self.0) in
      ap (λ w. holds w (b % 64)) (get_or-map _ c.args.self (b / 64) 0 0 within)
      ∙ holds-not (get_or c.args.self (b / 64) 0) (b % 64) (Each1-get_or _ c.args.self (b / 64) 0 within c.fits-self.1).fits (omega arith);
}
