-- Inner words: what functions of this crate promise one another. No public contract cites them.
-- Here: the row beside a row.
use Rattle.std.specs.Prelude.{ℕ, List}
use Rattle.gas_geom.specs.declared.moves.Move.{Move}
use Rattle.gas_geom.specs.declared.moves.Move.TheVariants.{Back, Stay, On}

-- the row that a step across the rows leads to from the middle one of three
abbrev pub row_beside : Move → List ℕ → List ℕ → List ℕ → List ℕ
row_beside Back above middle below = above
row_beside Stay above middle below = middle
row_beside On above middle below = below
