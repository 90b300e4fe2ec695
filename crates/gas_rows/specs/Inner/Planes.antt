-- Inner words: what functions of this crate promise one another. No public contract cites them.
-- The words of a row are those of 1 to MOST_SIDE cells, with nothing past the width.
use Rattle.std.specs.Prelude.{◌≡◌, ℕ, ◌*◌, ◌<◌, ◌≤◌, false, List, length}
use Rattle.gas_geom.specs.declared.size.TheConstants.{MOST_SIDE}
use Rattle.gas_bits.specs.Words.{words_in}
use Rattle.gas_bits.specs.Planes.{has}

-- bits past the width are zero
abbrev pub IsClear : ℕ → ℕ → List ℕ → Type 0
IsClear dirs width words =
    (i x : ℕ) → i < dirs → width ≤ x → x < 64 * words_in width → has words (words_in width) i x ≡ false

pub record ArePlanes (dirs width : ℕ) (words : List ℕ) : Type 0 where
  pub some_cells : 1 ≤ width
  pub few_cells : width ≤ MOST_SIDE
  pub long : length words ≡ dirs * words_in width
  pub clear : IsClear dirs width words
