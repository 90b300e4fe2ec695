-- Generations add up.
use Rattle.std.proofs.Common.{◌≡◌, ℕ, ◌+◌, List, ap}
use Rattle.gas_geom.specs.Gas.{Rules}
use Rattle.gas_geom.specs.Lattice.{LatticeModel}
use Rattle.gas_geom.proofs.Runs.{generation-add}
use Rattle.gas_rows.specs.Chirality.{chirality_bit}
use Rattle.gas_rows.specs.declared.chirality.Chirality.{Chirality}
use Rattle.gas_stage.specs.Evolution.{lattice_after}

pub lattice_after-add : (gas : Rules) (chirality : Chirality) (first : ℕ) (lattice : LatticeModel) (m n : ℕ) →
    lattice_after gas chirality (first + m) (lattice_after gas chirality first lattice m) n ≡ lattice_after gas chirality first lattice (m + n)
lattice_after-add gas chirality first lattice m n =
    ap (λ (rows : List (List ℕ)). record lattice { rows = rows })
    (generation-add gas lattice.channel (chirality_bit chirality lattice.channel.width) first lattice.rows m n)
