-- The words of a row of a gas: each direction has n words of 64 cells, direction 0 first.
use Rattle.std.specs.Prelude.{ℕ, ◌+◌, ◌*◌, ◌/◌, ◌%◌, Bool, List, replicate, slice_index, slice_index_or}
use Rattle.gas_geom.specs.Gas.{holds}
use Rattle.gas_geom.specs.Lattice.{set_of}

-- whether cell x holds direction i, by words of which every direction has n
unfoldable pub has : List ℕ → ℕ → ℕ → ℕ → Bool
has words n i x = holds (slice_index words (i * n + x / 64)) (x % 64)

-- the set of cell x
unfoldable pub state : List ℕ → ℕ → ℕ → ℕ → ℕ
state words n dirs x = set_of dirs (λ i. has words n i x)

-- whether cell c of 256 holds direction i, by four words of each direction
abbrev pub four_has : List (List ℕ) → ℕ → ℕ → Bool
four_has planes i c = holds (slice_index (slice_index_or planes i (replicate 4 0)) (c / 64)) (c % 64)
