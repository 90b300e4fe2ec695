-- HPP, the gas of J. Hardy, Y. Pomeau and O. de Pazzis, "Time evolution of a two-dimensional model system",
-- Journal of Mathematical Physics 14 (1973) 1746: four directions on the square lattice.
use Rattle.std.specs.Prelude.{ℕ, ◌+◌, ◌-◌, ◌%◌, if◌then◌else◌, ◌==◌, List, [], ◌∷◌, slice_index_or, codes, ℤ, pos, negsuc}
use Rattle.gas_geom.specs.declared.moves.Move.{Move}
use Rattle.gas_geom.specs.declared.moves.Move.TheVariants.{Back, Stay, On}
use Rattle.gas_geom.specs.Gas.{Rules}

-- the steps of E, N, W and S
abbrev pub steps : List (Move × Move)
steps = (On, Stay) ∷ (Stay, Back) ∷ (Back, Stay) ∷ (Stay, On) ∷ []

-- the momenta, eastwards and northwards
abbrev pub momenta : List (ℤ × ℤ)
momenta = (pos 1, pos 0) ∷ (pos 0, pos 1) ∷ (negsuc 0, pos 0) ∷ (pos 0, negsuc 0) ∷ []

-- the direction that comes to direction i by a turn by a quarter to the left, and by the mirror that keeps E and W
abbrev pub quarter : ℕ → ℕ
quarter i = (i + 3) % 4

abbrev pub square_mirror : ℕ → ℕ
square_mirror i = (4 - i) % 4

abbrev pub hpp : Rules
hpp = record {
  name = codes "hpp";
  dirs = 4;
  opposite = λ i. (i + 2) % 4;
  step = λ i odd. slice_index_or steps i (Stay, Stay);
  -- a head-on pair alone turns by a quarter
  collide = λ s chi. if s == 0x05 then 0x0a else if s == 0x0a then 0x05 else s;
  momentum = λ i. slice_index_or momenta i (pos 0, pos 0);
}
