-- Inner words: four words of 64 cells as one of 256.
use Rattle.std.specs.Prelude.{ℕ, ◌/◌, ◌%◌, Bool, List, slice_index}
use Rattle.gas_geom.specs.Gas.{holds}

-- whether four words hold cell c: the first 64 cells are those of the first word
abbrev pub lanes_hold : List ℕ → ℕ → Bool
lanes_hold lanes c = holds (slice_index lanes (c / 64)) (c % 64)
