-- The random bit of a generation and a cell.
use Rattle.std.specs.Prelude.{ℕ, ◌+◌, ◌*◌, ◌/◌, ◌%◌, Bool, true, false, List}
use Rattle.std.specs.Int.{div_ceil}
use Rattle.gas_geom.specs.Gas.{holds}
use Rattle.gas_rows.specs.Key.{key_word}
use Rattle.gas_rows.specs.declared.chirality.Chirality.{Chirality}
use Rattle.gas_rows.specs.declared.chirality.Chirality.TheVariants.{Seeded, Left, Right}

-- The bit of the cell (x, y) of a channel of that width in the step from generation g. A seeded one is a bit of the key
-- stream, 32 to a word, the least first; the stream is the generation, and each row begins at a word.
abbrev pub chirality_bit : Chirality → ℕ → ℕ → ℕ → ℕ → Bool
chirality_bit (Seeded seed) width g x y =
    holds (key_word seed g (y * div_ceil width 32 + x / 32)) (x % 32)
chirality_bit Left width g x y = true
chirality_bit Right width g x y = false

-- what random bits are drawn, and the bits of the row that was drawn last
pub record RandomBitsModel : Type 0 where
  pub chirality : Chirality
  pub bits : List Bool
