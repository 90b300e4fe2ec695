use Rattle.std.proofs.Common.{◌≡◌, length, arith, rules}
use Rattle.gas_layout.proofs.drawing.Skyline.extend.Goals as goal

pub extend-requires-clause-columns : goal.extend-requires-clause-columns
extend-requires-clause-columns c =
    let long : length c.as_mut_slice-2.result.now ≡ length c.args.self.now.bands.items = search rules in
    c.extend_ends-bands.ensures.within (length c.as_mut_slice-2.result.now) (omega (arith, long, c.requires.sized.bands, c.as_mut_slice.ensures.len))
