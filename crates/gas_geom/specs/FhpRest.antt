-- The gas fhp-rest: the six directions of FHP-I, and in a cell at most one particle at rest. Its collision rules were published as
-- FHP-II by U. Frisch and others, "Lattice gas hydrodynamics in two and three dimensions", Complex Systems 1 (1987) 649, but this
-- project claims no more than its own table.
use Rattle.std.specs.Prelude.{ℕ, ◌+◌, ◌-◌, ◌==◌, nat_lt, if◌then◌else◌, List, [], ◌∷◌, codes}
use Rattle.gas_geom.specs.Gas.{Rules}
use Rattle.gas_geom.specs.Fhp1.{fhp1}

-- a particle that moves beside one at rest, and the two that fly apart to its left and right in their place
abbrev pub exchanges : List (ℕ × ℕ)
exchanges = (0x41, 0x22) ∷ (0x42, 0x05) ∷ (0x44, 0x0a) ∷ (0x48, 0x14) ∷ (0x50, 0x28) ∷ (0x60, 0x11) ∷ []

-- the other set of the pair that has `s`, or `none` if no pair has it
abbrev pub exchange_of : List (ℕ × ℕ) → ℕ → ℕ → ℕ
exchange_of [] s none = none
exchange_of (pair ∷ pairs) s none =
    if s == pair.0 then pair.1 else if s == pair.1 then pair.0 else exchange_of pairs s none

-- Direction 6 rests. FHP-I has no step and no momentum for it, so it leads nowhere and has none.
abbrev pub fhp_rest : Rules
fhp_rest = record fhp1 {
  name = codes "fhp-rest";
  dirs = 7;
  opposite = λ i. if i == 6 then 6 else fhp1.opposite i;
  -- a set of no pair collides as in FHP-I, with or without a particle at rest
  collide = λ s chi. exchange_of exchanges s (if nat_lt s 0x40 then fhp1.collide s chi else 0x40 + fhp1.collide (s - 0x40) chi);
}
