-- Inner words: what functions of this crate promise one another. No public contract cites them.
-- What is inside a mask.
use Rattle.std.specs.Prelude.{◌≡◌, ℕ, ◌≤◌, Bool, true, false, List, length, map}
use Rattle.std.specs.List.{range_with_len}
use Rattle.gas_geom.specs.declared.size.TheConstants.{MOST_SIDE}
use Rattle.gas_bits.specs.Words.{words_in, bit}

-- the truth values of the cells, from the west
unfoldable pub cells : ℕ → List ℕ → List Bool
cells width words = map (bit words) (range_with_len 0 width)

-- 1 to MOST_SIDE cells, in no more words than they take, with no bit past the width, and with none at all where that is known
pub record IsMask (width : ℕ) (blank : Bool) (words : List ℕ) : Type 0 where
  pub some_cells : 1 ≤ width
  pub few_cells : width ≤ MOST_SIDE
  pub long : length words ≡ words_in width
  pub clear : (x : ℕ) → width ≤ x → bit words x ≡ false
  pub none : blank ≡ true → (x : ℕ) → bit words x ≡ false
