-- Lattices: a set of directions for each cell, and the lattices that follow.
use Rattle.std.specs.Prelude.{◌≡◌, ℕ, zero, suc, ◌+◌, ◌^◌, ◌<◌, Bool, true, if◌then◌else◌, List, [], map, length, replicate, slice_index, slice_index_or, slice_set, sum_by}
use Rattle.std.specs.List.{range_with_len}
use Rattle.std.specs.Option.{option_map_or}
use Rattle.gas_geom.specs.Gas.{Rules, neighbour_of, holds, particles}
use Rattle.gas_geom.specs.Channel.{ChannelModel, is_solid}

-- a channel, and the sets of its cells as a list of rows from the top
pub record LatticeModel : Type 0 where
  pub channel : ChannelModel
  pub rows : List (List ℕ)

-- the set at the cell (x, y) of a list of rows, and the empty set outside
abbrev pub cell : List (List ℕ) → ℕ → ℕ → ℕ
cell rows x y = slice_index (slice_index_or rows y []) x

-- a row, and rows from the top, by their cells
abbrev pub row_of : {A : Type 0} → ℕ → (ℕ → A) → List A
row_of width at = map at (range_with_len 0 width)

abbrev pub rows_of : {A : Type 0} → ℕ → ℕ → (ℕ → ℕ → A) → List (List A)
rows_of width height at = map (λ y. row_of width (λ x. at x y)) (range_with_len 0 height)

-- rows of a lattice: sets of the gas's directions, empty at solid cells
pub record IsLattice (gas : Rules) (channel : ChannelModel) (rows : List (List ℕ)) : Type 0 where
  pub high : length rows ≡ channel.height
  pub wide : (y : ℕ) → y < channel.height → length (slice_index_or rows y []) ≡ channel.width
  pub sets : (x y : ℕ) → cell rows x y < 2 ^ gas.dirs
  pub empty : (x y : ℕ) → is_solid channel x y ≡ true → cell rows x y ≡ 0

-- the lattice of a channel with no particle
abbrev pub empty_lattice : ChannelModel → LatticeModel
empty_lattice channel = record { channel = channel; rows = replicate channel.height (replicate channel.width 0) }

-- the rows with another value at the cell (x, y): a set, or whether it is solid
abbrev pub with_cell : {A : Type 0} → List (List A) → ℕ → ℕ → A → List (List A)
with_cell rows x y value = slice_set rows y (slice_set (slice_index_or rows y []) x value)

-- the lattice after a collision in every cell, with `chi` as random bits: solid cells are empty
abbrev pub collided : Rules → ChannelModel → (ℕ → ℕ → Bool) → (ℕ → ℕ → ℕ) → ℕ → ℕ → ℕ
collided gas channel chi at x y = if is_solid channel x y then 0 else gas.collide (at x y) (chi x y)

-- whether a particle arrives at the fluid cell (x, y) in direction i: from the cell behind it or, if the wall or a solid cell is there,
-- by bounce-back, as the cell's own particle that was sent back
abbrev pub arriving : Rules → ChannelModel → (ℕ → ℕ → ℕ) → ℕ → ℕ → ℕ → Bool
arriving gas channel at x y i =
    let sent_back = holds (at x y) (gas.opposite i) in
    let behind = neighbour_of gas channel.width channel.height x y (gas.opposite i) in
    option_map_or (λ u. if is_solid channel u.0 u.1 then sent_back else holds (at u.0 u.1) i) behind sent_back

-- the set of the directions i below n for which f holds
abbrev pub set_of : ℕ → (ℕ → Bool) → ℕ
set_of zero f = 0
set_of (suc n) f = set_of n f + (if f n then 2 ^ n else 0)

-- the lattice after every particle moved along its link
abbrev pub streamed : Rules → ChannelModel → (ℕ → ℕ → ℕ) → ℕ → ℕ → ℕ
streamed gas channel at x y = if is_solid channel x y then 0 else set_of gas.dirs (arriving gas channel at x y)

-- the next lattice
abbrev pub next : Rules → ChannelModel → (ℕ → ℕ → Bool) → List (List ℕ) → List (List ℕ)
next gas channel chi rows =
    rows_of channel.width channel.height (streamed gas channel (collided gas channel chi (cell rows)))

-- the lattice n generations after generation `start`, with `chi` as random bits of every generation and cell
abbrev pub generation : Rules → ChannelModel → (ℕ → ℕ → ℕ → Bool) → ℕ → List (List ℕ) → ℕ → List (List ℕ)
generation gas channel chi start rows zero = rows
generation gas channel chi start rows (suc n) =
    next gas channel (chi (start + n)) (generation gas channel chi start rows n)

-- the number of particles
abbrev pub count : Rules → List (List ℕ) → ℕ
count gas rows = sum_by (λ row. sum_by (particles gas) row) rows
