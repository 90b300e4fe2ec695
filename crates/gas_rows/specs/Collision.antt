-- The cells of a row, by its words, after a collision.
use Rattle.std.specs.Prelude.{ℕ, List, if◌then◌else◌}
use Rattle.gas_geom.specs.Gas.{Rules}
use Rattle.gas_bits.specs.Words.{bit}
use Rattle.gas_bits.specs.Planes.{state}
use Rattle.gas_rows.specs.declared.collision.Collision.{Collision}

-- the state of cell y after the collision of a row of these words
abbrev pub collided_state : Rules → Collision → List ℕ → ℕ → ℕ
collided_state gas q words y = if bit q.solid.now y then 0 else gas.collide (state words q.words_each gas.dirs y) (bit q.chi.now y)
