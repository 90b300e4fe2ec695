-- A part of a lattice: rows of it, as a lattice of their own, but for its random bits, which are those of its cells' places in the whole.
use Rattle.std.specs.Prelude.{ℕ, ◌+◌, Bool}
use Rattle.gas_geom.specs.Gas.{Rules}
use Rattle.gas_geom.specs.Lattice.{LatticeModel, generation}
use Rattle.gas_rows.specs.Chirality.{chirality_bit}
use Rattle.gas_rows.specs.declared.chirality.Chirality.{Chirality}

-- the bit of its cell (x, y), where its row 0 is that row of a whole of that width
abbrev pub part_bit : Chirality → ℕ → ℕ → ℕ → ℕ → ℕ → Bool
part_bit chirality width row g x y = chirality_bit chirality width g x (row + y)

-- the lattice n generations after a part of generation `first`
abbrev pub part_after : Rules → Chirality → ℕ → ℕ → LatticeModel → ℕ → LatticeModel
part_after gas chirality row first part n =
    record part { rows = generation gas part.channel (part_bit chirality part.channel.width row) first part.rows n }
