-- FHP-I, the gas of U. Frisch, B. Hasslacher and Y. Pomeau, "Lattice-gas automata for the Navier-Stokes equation",
-- Physical Review Letters 56 (1986) 1505: six directions on the triangular lattice, no particle at rest.
use Rattle.std.specs.Prelude.{ℕ, ◌+◌, ◌-◌, ◌%◌, if◌then◌else◌, ◌==◌, List, [], ◌∷◌, slice_index_or, codes, ℤ, pos, negsuc}
use Rattle.gas_geom.specs.declared.moves.Move.{Move}
use Rattle.gas_geom.specs.declared.moves.Move.TheVariants.{Back, Stay, On}
use Rattle.gas_geom.specs.Gas.{Rules}

-- the steps of E, NE, NW, W, SW and SE from an even row
abbrev pub steps_from_even : List (Move × Move)
steps_from_even = (On, Stay) ∷ (Stay, Back) ∷ (Back, Back) ∷ (Back, Stay) ∷ (Back, On) ∷ (Stay, On) ∷ []

-- and from an odd row, which lies half a cell to the east
abbrev pub steps_from_odd : List (Move × Move)
steps_from_odd = (On, Stay) ∷ (On, Back) ∷ (Stay, Back) ∷ (Back, Stay) ∷ (Stay, On) ∷ (On, On) ∷ []

-- the momenta: eastwards in half units, northwards in units of half the square root of 3
abbrev pub momenta : List (ℤ × ℤ)
momenta = (pos 2, pos 0) ∷ (pos 1, pos 1) ∷ (negsuc 0, pos 1) ∷ (negsuc 1, pos 0) ∷ (negsuc 0, negsuc 0) ∷ (pos 1, negsuc 0) ∷ []

-- The direction that comes to direction i by a turn by a sixth to the left, and by the mirror that keeps E and W. A particle at rest, which
-- is direction 6 of another gas, stays.
abbrev pub sixth : ℕ → ℕ
sixth i = if i == 6 then 6 else (i + 5) % 6

abbrev pub hexagon_mirror : ℕ → ℕ
hexagon_mirror i = if i == 6 then 6 else (6 - i) % 6

abbrev pub fhp1 : Rules
fhp1 = record {
  name = codes "fhp1";
  dirs = 6;
  opposite = λ i. (i + 3) % 6;
  step = λ i odd. slice_index_or (if odd then steps_from_odd else steps_from_even) i (Stay, Stay);
  -- A head-on pair turns by a sixth, to the left if the random bit is set and else to the right. Three particles at equal angles
  -- reverse. All other sets stay as they are: a spectator prevents a collision.
  collide = λ s chi.
      if s == 0x09 then (if chi then 0x12 else 0x24)
      else if s == 0x12 then (if chi then 0x24 else 0x09)
      else if s == 0x24 then (if chi then 0x09 else 0x12)
      else if s == 0x15 then 0x2a
      else if s == 0x2a then 0x15
      else s;
  momentum = λ i. slice_index_or momenta i (pos 0, pos 0);
}
