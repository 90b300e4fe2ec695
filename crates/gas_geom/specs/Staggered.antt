-- Staggered momenta: the momentum across parallel lines of the lattice, with opposite signs on neighbouring lines and in successive
-- generations. They never change, which is an artefact of the lattice (G. Zanetti, "Hydrodynamics of lattice-gas automata", Physical Review A
-- 40 (1989) 1539): a fluid has no such law.
use Rattle.std.specs.Prelude.{◌≡◌, ℕ, ◌+◌, ◌/◌, ◌%◌, ◌==◌, Bool, if◌then◌else◌, List, ℤ, ◌+ℤ◌, ◌-ℤ◌, neg_ℤ}
use Rattle.std.specs.List.{range_with_len}
use Rattle.gas_geom.specs.Gas.{Rules, directions_of, signed_sum_by}
use Rattle.gas_geom.specs.Channel.{ChannelModel}
use Rattle.gas_geom.specs.Lattice.{IsLattice, cell, generation}

-- parallel lines: a number of each cell (x, y) that is even on every second line, and the part of a momentum across the lines
pub record Lines : Type 0 where
  pub line : ℕ → ℕ → ℕ
  pub across : ℤ × ℤ → ℤ

-- the rows, and on the triangular lattice the lines to the northeast and those to the northwest
abbrev pub horizontal : Lines
horizontal = record { line = λ x y. y; across = λ p. p.1 }

abbrev pub rising : Lines
rising = record { line = λ x y. x + (y + 1) / 2; across = λ p. p.1 -ℤ p.0 }

abbrev pub falling : Lines
falling = record { line = λ x y. x + y / 2; across = λ p. p.1 +ℤ p.0 }

-- a number, or its opposite if n is odd
abbrev pub alternating : ℕ → ℤ → ℤ
alternating n z = if n % 2 == 1 then neg_ℤ z else z

-- the staggered momentum of rows in generation t
abbrev pub staggered : Rules → Lines → ChannelModel → ℕ → List (List ℕ) → ℤ
staggered gas lines channel t rows =
    signed_sum_by (λ y. signed_sum_by (λ x.
    signed_sum_by (λ i. alternating (t + lines.line x y) (lines.across (gas.momentum i))) (directions_of gas (cell rows x y)))
    (range_with_len 0 channel.width)) (range_with_len 0 channel.height)

-- it is the same in all generations of every run, with walls and obstacles
abbrev pub IsKept : Rules → Lines → ChannelModel → Type 0
IsKept gas lines channel =
    (chi : ℕ → ℕ → ℕ → Bool) (start n : ℕ) (rows : List (List ℕ)) → IsLattice gas channel rows →
    staggered gas lines channel (start + n) (generation gas channel chi start rows n) ≡ staggered gas lines channel start rows
