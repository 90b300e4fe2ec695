-- The gases and the chiralities, by their names.
use Rattle.std.specs.Prelude.{ℕ, List, [], ◌∷◌, Option, Some, None, codes}
use Rattle.std.specs.List.{find}
use Rattle.std.specs.Str.{bytes_eq}
use Rattle.gas_geom.specs.Gas.{Rules}
use Rattle.gas_geom.specs.Fhp1.{fhp1}
use Rattle.gas_geom.specs.Hpp.{hpp}
use Rattle.gas_geom.specs.FhpRest.{fhp_rest}
use Rattle.gas_geom.specs.Lattice.{LatticeModel}
use Rattle.gas_rows.specs.declared.chirality.Chirality.{Chirality}
use Rattle.gas_rows.specs.declared.chirality.Chirality.TheVariants.{Seeded, Left, Right}
use Rattle.gas_scene.specs.declared.catalog.KnownGas.{KnownGas}
use Rattle.gas_scene.specs.declared.catalog.KnownGas.TheVariants.{Fhp1, Hpp, FhpRest}
use Rattle.gas_scene.specs.declared.catalog.AnyLattice.{AnyLattice}
use Rattle.gas_scene.specs.declared.catalog.AnyLattice.TheVariants as lattice_of

-- the rules of a gas
abbrev pub rules_of : KnownGas → Rules
rules_of Fhp1 = fhp1
rules_of Hpp = hpp
rules_of FhpRest = fhp_rest

-- the gas of this name
abbrev pub gas_named : List ℕ → Option KnownGas
gas_named name = find (λ gas. bytes_eq name (rules_of gas).name) (Fhp1 ∷ Hpp ∷ FhpRest ∷ [])

-- the name of a chirality, and its seed, if it has one
abbrev pub name_and_seed : Chirality → List ℕ × Option ℕ
name_and_seed (Seeded seed) = (codes "seeded", Some seed)
name_and_seed Left = (codes "left", None)
name_and_seed Right = (codes "right", None)

-- the chirality of this name, with the seed if it has one
abbrev pub chirality_named : List ℕ → ℕ → Option Chirality
chirality_named name seed = find (λ c. bytes_eq name (name_and_seed c).0) (Seeded seed ∷ Left ∷ Right ∷ [])

-- a lattice and its gas
pub record GasLattice : Type 0 where
  pub gas : KnownGas
  pub lattice : LatticeModel

abbrev pub gas_lattice : AnyLattice → GasLattice
gas_lattice (lattice_of.Fhp1 lattice) = record { gas = Fhp1; lattice = lattice }
gas_lattice (lattice_of.Hpp lattice) = record { gas = Hpp; lattice = lattice }
gas_lattice (lattice_of.FhpRest lattice) = record { gas = FhpRest; lattice = lattice }
