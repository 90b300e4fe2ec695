use Rattle.std.proofs.Common.{◌≡◌, ℕ, ◌*◌, ◌<◌, false, length, get_or}
use Rattle.gas_layout.specs.Inner.Strips.{passes}
use Rattle.gas_layout.proofs.drawing.Skyline.mark.Given as goal

abbrev pub invariant-loop-band : goal.invariant-loop-band
invariant-loop-band l =
    (x : ℕ) → x < length l.columns → x < 256 * l.band → get_or l.solid x false ≡ passes l.self x l.y
