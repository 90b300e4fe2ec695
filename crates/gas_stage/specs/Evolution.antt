-- The lattices that follow a lattice under its random bits.
use Rattle.std.specs.Prelude.{ℕ}
use Rattle.gas_geom.specs.Gas.{Rules}
use Rattle.gas_geom.specs.Lattice.{LatticeModel, generation}
use Rattle.gas_rows.specs.Chirality.{chirality_bit}
use Rattle.gas_rows.specs.declared.chirality.Chirality.{Chirality}

-- the lattice n generations after a lattice of generation `first`
abbrev pub lattice_after : Rules → Chirality → ℕ → LatticeModel → ℕ → LatticeModel
lattice_after gas chirality first lattice n =
    record lattice { rows = generation gas lattice.channel (chirality_bit chirality lattice.channel.width) first lattice.rows n }
