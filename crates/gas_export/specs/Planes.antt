-- Planes in memory: rows follow one another from the top, and a row has the words of plane 0, then those of plane 1, and so on.
use Rattle.std.specs.Prelude.{ℕ, ◌*◌, ◌==◌, Bool, List, take, drop, if◌then◌else◌}
use Rattle.gas_geom.specs.Gas.{Rules}
use Rattle.gas_geom.specs.Fhp1.{fhp1}
use Rattle.gas_geom.specs.Hpp.{hpp}
use Rattle.gas_geom.specs.FhpRest.{fhp_rest}
use Rattle.gas_geom.specs.Lattice.{LatticeModel}
use Rattle.gas_bits.specs.Words.{words_in, bit}
use Rattle.gas_bits.specs.Planes.{state}
use Rattle.gas_layout.specs.Layout.{lattice_of}
use Rattle.gas_rows.specs.declared.chirality.Chirality.{Chirality}
use Rattle.gas_rows.specs.declared.chirality.Chirality.TheVariants.{Seeded, Left, Right}

-- row y of rows of n words
abbrev pub row_words : {A : Type 0} → ℕ → List A → ℕ → List A
row_words n words y = take n (drop (y * n) words)

-- the number that so many planes hold at the cell (x, y), and whether it is solid
abbrev pub state_at : ℕ → ℕ → List ℕ → ℕ → ℕ → ℕ
state_at planes width words x y = state (row_words (planes * words_in width) words y) (words_in width) planes x

abbrev pub solid_at : ℕ → List ℕ → ℕ → ℕ → Bool
solid_at width solid x y = bit (row_words (words_in width) solid y) x

-- the lattice in the words of its solid cells and of its states
abbrev pub lattice_in : Rules → ℕ → ℕ → List ℕ → List ℕ → LatticeModel
lattice_in gas width height solid states = lattice_of width height (solid_at width solid) (state_at gas.dirs width states)

-- the gas and the chirality of a number
abbrev pub gas_numbered : ℕ → Rules
gas_numbered n = if n == 0 then fhp1 else if n == 1 then hpp else fhp_rest

abbrev pub chirality_numbered : ℕ → ℕ → Chirality
chirality_numbered n seed = if n == 0 then Seeded seed else if n == 1 then Left else Right
