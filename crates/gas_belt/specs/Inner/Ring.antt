-- Inner words: what functions of this crate promise one another. No public contract cites them.
-- Here: the ring of a belt, and the rows in its words.
use Rattle.std.specs.Prelude.{ℕ, zero, suc, ◌*◌, ◌/◌, List, [], ◌∷◌, ◌++◌, take, drop}
use Rattle.std.specs.Global.{Global}
use Rattle.rtrb.specs.declared.AnyItems.{AnyItems}
use Rattle.rtrb.specs.declared.end.End.{End}
use Rattle.rtrb.specs.Ends.{capacity_of}
use Rattle.gas_rows.specs.Planes.{cells_of}
use Rattle.gas_rows.specs.Row.{RowModel}
use Rattle.gas_bits.specs.Words.{words_in}
use Rattle.gas_belt.specs.Belt.{Belt}

-- the number of words of a row of that width
abbrev pub row_words : ℕ → ℕ → ℕ
row_words dirs width = dirs * words_in width

-- the belt of an end of a ring, for rows of that width: its capacity is the ring's capacity in rows
abbrev pub belt_of : ℕ → ℕ → End ℕ Global AnyItems → Belt
belt_of dirs width e =
    record { width = width; capacity = capacity_of e / row_words dirs width; ring = (e.words, e.slots, e.names, e.heap) }

-- the first n parts of `size` words each, as `read` reads them
unfoldable pub rows_of_words : (List ℕ → RowModel) → ℕ → ℕ → List ℕ → List RowModel
rows_of_words read size zero words = []
rows_of_words read size (suc n) words = rows_of_words read size n words ++ read (take size (drop (size * n) words)) ∷ []

-- the first n rows of that width in these words
abbrev pub rows_in : ℕ → ℕ → ℕ → List ℕ → List RowModel
rows_in dirs width n words = rows_of_words (cells_of dirs width) (row_words dirs width) n words
