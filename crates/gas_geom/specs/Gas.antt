-- What a lattice gas is: its name, its directions, their steps and momenta, and what a collision does.
use Rattle.std.specs.Prelude.{◌≡◌, ℕ, ◌%◌, ◌^◌, ◌<◌, ◌≤◌, ◌==◌, Bool, List, length, filter, fold, Option, Some, option_map, ℤ, pos, ◌+ℤ◌, unsigned_abs}
use Rattle.std.specs.Int.{bit_at}
use Rattle.std.specs.List.{range_with_len}
use Rattle.gas_geom.specs.declared.moves.Move.{Move}
use Rattle.gas_geom.specs.Moves.{column_after, row_after}

-- A set of directions is a number: it holds direction `i` if bit `i` is 1.
-- The rules of a gas: its directions are the numbers below `dirs`, and its sets those below `2 ^ dirs`.
pub record Rules : Type 0 where
  -- the name as text
  pub name : List ℕ
  pub dirs : ℕ
  -- the direction that leads back
  pub opposite : ℕ → ℕ
  -- the step in a direction from an even or an odd row: along the row and, downwards, across the rows
  pub step : ℕ → Bool → Move × Move
  -- the set after a collision; if there is a choice, a random bit decides
  pub collide : ℕ → Bool → ℕ
  -- the momentum of a direction: eastwards and northwards
  pub momentum : ℕ → ℤ × ℤ

-- the neighbour of the cell (x, y) in direction i, or None past the wall
abbrev pub neighbour_of : Rules → ℕ → ℕ → ℕ → ℕ → ℕ → Option (ℕ × ℕ)
neighbour_of gas width height x y i =
    let m = gas.step i (y % 2 == 1) in
    option_map (λ y'. (column_after width x m.0, y')) (row_after height y m.1)

-- whether a set holds direction i
abbrev pub holds : ℕ → ℕ → Bool
holds s i = bit_at s i == 1

-- the directions that a set holds
abbrev pub directions_of : Rules → ℕ → List ℕ
directions_of gas s = filter (holds s) (range_with_len 0 gas.dirs)

-- how many directions a set holds
abbrev pub particles : Rules → ℕ → ℕ
particles gas s = length (directions_of gas s)

-- the sum of a function over the items of a list
abbrev pub signed_sum_by : {X : Type 0} → (X → ℤ) → List X → ℤ
signed_sum_by f xs = fold (λ a x. a +ℤ f x) (pos 0) xs

-- the momentum of a set
abbrev pub momentum_of : Rules → ℕ → ℤ × ℤ
momentum_of gas s =
    (signed_sum_by (λ i. (gas.momentum i).0) (directions_of gas s), signed_sum_by (λ i. (gas.momentum i).1) (directions_of gas s))

-- what makes rules a gas
pub record IsGas (gas : Rules) : Type 0 where
  pub some_dirs : 1 ≤ gas.dirs
  pub few_dirs : gas.dirs ≤ 8
  pub opposite_within : (i : ℕ) → i < gas.dirs → gas.opposite i < gas.dirs
  pub opposite_twice : (i : ℕ) → i < gas.dirs → gas.opposite (gas.opposite i) ≡ i
  -- from the neighbour in a direction, the neighbour against that direction is the cell itself
  pub steps_back : (width height x y i x' y' : ℕ) → x < width → y < height → i < gas.dirs →
      neighbour_of gas width height x y i ≡ Some (x', y') → neighbour_of gas width height x' y' (gas.opposite i) ≡ Some (x, y)
  pub momentum_small : (i : ℕ) → i < gas.dirs → (unsigned_abs (gas.momentum i).0 ≤ 2) × (unsigned_abs (gas.momentum i).1 ≤ 2)
  pub collide_within : (s : ℕ) (chi : Bool) → s < 2 ^ gas.dirs → gas.collide s chi < 2 ^ gas.dirs
  pub collide_keeps : (s : ℕ) (chi : Bool) → s < 2 ^ gas.dirs → particles gas (gas.collide s chi) ≡ particles gas s
  pub collide_keeps_momentum : (s : ℕ) (chi : Bool) → s < 2 ^ gas.dirs →
      momentum_of gas (gas.collide s chi) ≡ momentum_of gas s
  pub collide_one_to_one : (s t : ℕ) (chi : Bool) → s < 2 ^ gas.dirs → t < 2 ^ gas.dirs →
      gas.collide s chi ≡ gas.collide t chi → s ≡ t
