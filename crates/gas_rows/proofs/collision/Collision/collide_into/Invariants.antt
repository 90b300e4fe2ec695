use Rattle.std.proofs.Common.{◌≡◌, ◌*◌, ◌/◌, ◌<◌, ℕ, length}
use Rattle.gas_bits.specs.Planes.{state}
use Rattle.gas_rows.specs.Collision.{collided_state}
use Rattle.gas_rows.proofs.collision.Collision.collide_into.Given as goal

-- the words before 4 * k are written
abbrev pub invariant-loop-k : goal.invariant-loop-k
invariant-loop-k g l = record {
  long : length l.out ≡ g.G.Gas.rules.dirs * l.self.words_each;
  done : (y : ℕ) → y / 64 < l.self.words_each → y < 64 * (4 * l.k) →
      state l.out l.self.words_each g.G.Gas.rules.dirs y ≡ collided_state g.G.Gas.rules l.self l.from y;
}
