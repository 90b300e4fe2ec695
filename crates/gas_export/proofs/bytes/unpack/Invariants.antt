use Rattle.std.proofs.Common.{◌≡◌, ◌<◌, ℕ, get_or}
use Rattle.gas_export.specs.Planes.{state_at}
use Rattle.gas_export.proofs.Written.{AreDone}
use Rattle.gas_export.proofs.bytes.unpack.Given as goal

-- the rows above y are unpacked
abbrev pub invariant-loop-y : goal.invariant-loop-y
invariant-loop-y l = let w = l.fn.size.width in
    AreDone (λ k row. (x : ℕ) → x < w → get_or row x 0 ≡ state_at l.planes w l.words x k) w l.fn.size.height l.y l.initial.bytes l.bytes
