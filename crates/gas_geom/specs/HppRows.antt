-- The rows of HPP: the eastward momentum of a row with no solid cell never changes, and in channels of an even width that of each of its two
-- checkerboards, the cells whose column and generation have an even sum and those whose sum is odd. No fluid has such a law.
use Rattle.std.specs.Prelude.{◌≡◌, ◌<◌, ℕ, ◌+◌, ◌%◌, ◌==◌, Bool, true, false, if◌then◌else◌, List, ℤ, pos}
use Rattle.std.specs.List.{range_with_len}
use Rattle.gas_geom.specs.Gas.{momentum_of, signed_sum_by}
use Rattle.gas_geom.specs.Hpp.{hpp}
use Rattle.gas_geom.specs.Channel.{ChannelModel, is_solid}
use Rattle.gas_geom.specs.Lattice.{IsLattice, cell, generation}

-- a choice of cells of a row in generation t, by the column x: every cell, and those of an even or an odd checkerboard
abbrev pub Choice : Type 0
Choice = ℕ → ℕ → Bool

abbrev pub every_cell : Choice
every_cell t x = true

abbrev pub even_cells : Choice
even_cells t x = (t + x) % 2 == 0

abbrev pub odd_cells : Choice
odd_cells t x = (t + x) % 2 == 1

-- the eastward momentum of the chosen cells of row y in generation t
abbrev pub eastward : Choice → ChannelModel → ℕ → ℕ → List (List ℕ) → ℤ
eastward chosen channel y t rows =
    signed_sum_by (λ x. if chosen t x then (momentum_of hpp (cell rows x y)).0 else pos 0) (range_with_len 0 channel.width)

-- it is the same in all generations of every run, in each row that has no solid cell
abbrev pub IsKeptInRows : Choice → ChannelModel → Type 0
IsKeptInRows chosen channel =
    (chi : ℕ → ℕ → ℕ → Bool) (start n y : ℕ) (rows : List (List ℕ)) → IsLattice hpp channel rows →
    y < channel.height → ((x : ℕ) → is_solid channel x y ≡ false) →
    eastward chosen channel y (start + n) (generation hpp channel chi start rows n) ≡ eastward chosen channel y start rows
