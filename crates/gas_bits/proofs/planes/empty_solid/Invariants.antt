use Rattle.std.proofs.Common.{◌≡◌, ℕ, ◌*◌, ◌/◌, ◌<◌, ◌&&◌, not}
use Rattle.std.specs.Prelude.{nat_lt}
use Rattle.gas_bits.specs.Words.{bit}
use Rattle.gas_bits.specs.Planes.{has}
use Rattle.gas_bits.proofs.planes.empty_solid.Given as goal

-- the solid cells of the words before j are empty
abbrev pub invariant-loop-j : goal.invariant-loop-j
invariant-loop-j l = (i y : ℕ) → i < l.dirs → y / 64 < l.words_each →
    has l.words l.words_each i y ≡ (has l.initial.words l.words_each i y && not (nat_lt y (64 * l.j) && bit l.solid y))
