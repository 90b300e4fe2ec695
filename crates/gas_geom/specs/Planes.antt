-- Bit planes: the sets of many cells at once, as one word for each direction.
use Rattle.std.specs.Prelude.{◌≡◌, ℕ, ◌≤◌, Bool, true, false, not, List, slice_index, slice_index_or}
use Rattle.gas_geom.specs.Gas.{holds}
use Rattle.gas_geom.specs.Lattice.{set_of}

-- one of two truth values, and not both
abbrev pub differ : Bool → Bool → Bool
differ true b = not b
differ false b = b

-- the set of cell c, where `bit` reads a word and `none` stands for planes that are missing: the directions whose planes hold c
abbrev pub set_in : {W : Type 0} → (W → ℕ → Bool) → W → ℕ → List W → ℕ → ℕ
set_in bit none dirs planes c = set_of dirs (λ i. bit (slice_index_or planes i none) c)

-- the set at bit b: the directions whose planes hold b
abbrev pub set_at : ℕ → List ℕ → ℕ → ℕ
set_at dirs planes b = set_of dirs (λ i. holds (slice_index planes i) b)

-- the planes from the number of directions on are zero
abbrev pub ZeroFrom : ℕ → List ℕ → Type 0
ZeroFrom dirs planes = (i : ℕ) → dirs ≤ i → slice_index planes i ≡ 0
