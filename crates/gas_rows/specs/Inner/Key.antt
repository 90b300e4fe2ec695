-- Inner words: what functions of this crate promise one another. No public contract cites them.
-- Here: generators of the key stream, and the random bits of a row.
use Rattle.std.specs.Prelude.{◌≡◌, ℕ, Bool, List}
use Rattle.rand_chacha.specs.ChaCha.{ChaCha, key_of}
use Rattle.gas_geom.specs.Lattice.{row_of}
use Rattle.gas_rows.specs.Chirality.{chirality_bit}
use Rattle.gas_rows.specs.Key.{key_bytes}
use Rattle.gas_rows.specs.declared.chirality.Chirality.{Chirality}
use Rattle.gas_rows.specs.declared.chirality.Chirality.TheVariants.{Seeded, Left, Right}

-- the random bits of row y, from the west
abbrev pub chirality_row : Chirality → ℕ → ℕ → ℕ → List Bool
chirality_row chirality width g y = row_of width (λ x. chirality_bit chirality width g x y)

-- seeded bits come from a generator under the key of their seed, and others from none
abbrev pub IsGeneratorOf : Chirality → ChaCha → Type 0
IsGeneratorOf (Seeded seed) generator = generator.key ≡ key_of (key_bytes seed)
IsGeneratorOf Left generator = ⊥
IsGeneratorOf Right generator = ⊥
