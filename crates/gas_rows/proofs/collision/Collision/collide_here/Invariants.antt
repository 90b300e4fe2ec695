use Rattle.std.proofs.Common.{◌≡◌, ◌*◌, ◌/◌, ◌<◌, ℕ, length, if◌then◌else◌}
use Rattle.std.specs.Prelude.{nat_lt}
use Rattle.gas_bits.specs.Planes.{state}
use Rattle.gas_rows.specs.Collision.{collided_state}
use Rattle.gas_rows.proofs.collision.Collision.collide_here.Given as goal

-- the words before 4 * k are collided, the others as they were
abbrev pub invariant-loop-k : goal.invariant-loop-k
invariant-loop-k g l = record {
  long : length l.words ≡ g.G.Gas.rules.dirs * l.self.words_each;
  done : (y : ℕ) → y / 64 < l.self.words_each → state l.words l.self.words_each g.G.Gas.rules.dirs y
      ≡ (if nat_lt y (64 * (4 * l.k)) then collided_state g.G.Gas.rules l.self l.fn.words y else state l.fn.words l.self.words_each g.G.Gas.rules.dirs y);
}
