-- Runs backwards: what a collision of a gas has beyond the laws of each gas, and the lattice whose run leads back.
use Rattle.std.specs.Prelude.{◌≡◌, ℕ, ◌^◌, ◌<◌, Bool, not, List, pos, ◌+ℤ◌}
use Rattle.gas_geom.specs.Gas.{Rules, holds}
use Rattle.gas_geom.specs.Channel.{ChannelModel}
use Rattle.gas_geom.specs.Lattice.{cell, rows_of, set_of, collided}

-- the set with each direction i taken for the direction `from i`
abbrev pub renamed : Rules → (ℕ → ℕ) → ℕ → ℕ
renamed gas from s = set_of gas.dirs (λ i. holds s (from i))

-- the set with every particle turned to the opposite direction
abbrev pub turned : Rules → ℕ → ℕ
turned gas s = renamed gas gas.opposite s

-- What a collision has in common with its mirror images. `turn` and `mirror` say which direction comes to each by the least turn of the
-- lattice and by a mirror along its rows.
pub record IsSymmetric (gas : Rules) (turn mirror : ℕ → ℕ) : Type 0 where
  pub momentum_turned : (i : ℕ) → i < gas.dirs →
      ((gas.momentum i).0 +ℤ (gas.momentum (gas.opposite i)).0 ≡ pos 0) × ((gas.momentum i).1 +ℤ (gas.momentum (gas.opposite i)).1 ≡ pos 0)
  -- a collision under the other random bit undoes it
  pub undone : (s : ℕ) (chi : Bool) → s < 2 ^ gas.dirs → gas.collide (gas.collide s chi) (not chi) ≡ s
  pub of_turned : (s : ℕ) (chi : Bool) → s < 2 ^ gas.dirs → gas.collide (turned gas s) chi ≡ turned gas (gas.collide s chi)
  pub of_rotated : (s : ℕ) (chi : Bool) → s < 2 ^ gas.dirs → gas.collide (renamed gas turn s) chi ≡ renamed gas turn (gas.collide s chi)
  pub of_mirrored : (s : ℕ) (chi : Bool) → s < 2 ^ gas.dirs →
      gas.collide (renamed gas mirror s) (not chi) ≡ renamed gas mirror (gas.collide s chi)

-- the rows after one more collision by that random bit, with every particle turned: a generation collides and then streams, so that
-- backwards it streams and then collides
abbrev pub reversed : Rules → ChannelModel → Bool → List (List ℕ) → List (List ℕ)
reversed gas channel chi rows = rows_of channel.width channel.height (λ x y. turned gas (collided gas channel (λ _ _. chi) (cell rows) x y))
