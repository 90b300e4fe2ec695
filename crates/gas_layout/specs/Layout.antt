-- Lattices laid out from numbers: rectangles of solid cells, fluid cells filled at a rate, and
-- placements of particles.
use Rattle.std.specs.Prelude.{ℕ, ◌+◌, ◌*◌, ◌%◌, ◌^◌, ◌&&◌, not, Bool, List, [], ◌∷◌, if◌then◌else◌, nat_lt, nat_abs, ℤ, pos, ◌+ℤ◌, int_le, int_lt}
use Rattle.std.specs.List.{list_any}
use Rattle.std.specs.Ordering.{int_eq}
use Rattle.gas_geom.specs.Gas.{Rules}
use Rattle.gas_geom.specs.Channel.{ChannelModel}
use Rattle.gas_geom.specs.Lattice.{LatticeModel, rows_of, set_of}
use Rattle.gas_rows.specs.Key.{key_word}
use Rattle.gas_layout.specs.declared.area.Rectangle.{Rectangle}
use Rattle.gas_layout.specs.declared.area.Placement.{Placement}

-- whether a number is low to high, and whether it is at least 0 and below a limit
abbrev pub between : ℤ → ℤ → ℤ → Bool
between low high n = int_le low n && int_le n high

abbrev pub is_index : ℕ → ℤ → Bool
is_index limit n = int_le (pos 0) n && int_lt n (pos limit)

-- whether a rectangle covers the cell (x, y), and whether one of several does
abbrev pub covers : Rectangle → ℤ → ℤ → Bool
covers r x y =
    (int_le r.x x && int_lt x (r.x +ℤ r.width)) && (int_le r.y y && int_lt y (r.y +ℤ r.height))

abbrev pub is_covered : List Rectangle → ℤ → ℤ → Bool
is_covered rs x y = list_any (λ r. covers r x y) rs

-- whether n is at least 1 and the n places from `start` on are places of this length
abbrev pub fits_along : ℕ → ℤ → ℤ → Bool
fits_along length start n =
    int_le (pos 0) start && (int_le (pos 1) n && int_le (start +ℤ n) (pos length))

-- whether a rectangle has cells, all of them in an area of this size
abbrev pub fits : ℕ → ℕ → Rectangle → Bool
fits width height r = fits_along width r.x r.width && fits_along height r.y r.height

-- whether the cell of a placement is in an area of this size and not solid, and its state is below
-- the number of states
abbrev pub can_place : ℕ → ℕ → ℕ → (ℤ → ℤ → Bool) → Placement → Bool
can_place states width height solid p =
    (is_index width p.x && is_index height p.y) && (is_index states p.state && not (solid p.x p.y))

-- a channel by its solid cells, and a lattice by its solid cells and its states
abbrev pub channel_of : ℕ → ℕ → (ℕ → ℕ → Bool) → ChannelModel
channel_of width height solid = record { width = width; height = height; solid = rows_of width height solid }

abbrev pub lattice_of : ℕ → ℕ → (ℕ → ℕ → Bool) → (ℕ → ℕ → ℕ) → LatticeModel
lattice_of width height solid at = record { channel = channel_of width height solid; rows = rows_of width height at }

-- the channel of this size in which a cell is solid if a rectangle covers it
abbrev pub drawn : ℕ → ℕ → List Rectangle → ChannelModel
drawn width height rs = channel_of width height (λ x y. is_covered rs (pos x) (pos y))

-- whether filling at the rate, in thousandths, puts a particle into direction i of the cell (x, y):
-- a word of the key stream decides
abbrev pub filled : ℕ → ℕ → ℕ → ℕ → ℕ → ℕ → Bool
filled seed rate width x y i = nat_lt (key_word seed (2 ^ 63 + i) (y * width + x) % 1000) rate

-- the state of the cell (x, y) after filling
unfoldable pub filling : Rules → ℕ → ℕ → ℕ → ℕ → ℕ → ℕ
filling gas seed rate width x y = set_of gas.dirs (filled seed rate width x y)

-- the state of the cell (x, y) after the placements, in order
abbrev pub placed : List Placement → ℕ → ℕ → ℕ → ℕ
placed [] x y state = state
placed (p ∷ ps) x y state =
    placed ps x y (if int_eq p.x (pos x) && int_eq p.y (pos y) then nat_abs p.state else state)
