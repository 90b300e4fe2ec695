use Rattle.std.proofs.Common.{◌≡◌, ◌<◌, ◌*◌, ◌/◌, ℕ, get_or}
use Rattle.gas_geom.specs.Gas.{holds}
use Rattle.gas_bits.specs.Words.{words_in}
use Rattle.gas_bits.specs.Planes.{has}
use Rattle.gas_export.specs.Planes.{row_words}
use Rattle.gas_export.proofs.Written.{AreDone}
use Rattle.gas_export.proofs.bytes.pack.Given as goal

-- the rows above y are packed, and past the width there are no bytes
abbrev pub invariant-loop-y : goal.invariant-loop-y
invariant-loop-y l = let w = l.fn.size.width in
    AreDone (λ k row. (i x : ℕ) → i < l.planes → x / 64 < words_in w → has row (words_in w) i x ≡ holds (get_or (row_words w l.bytes k) x 0) i)
    (l.planes * words_in w) l.fn.size.height l.y l.initial.words l.words
