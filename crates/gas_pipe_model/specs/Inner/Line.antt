-- Inner words: what proofs say of lines, and of what is computed. No public contract cites them.
-- Lines of any workers, and the histories after a put and after a take.
use Rattle.std.specs.Prelude.{◌≡◌, ℕ, zero, suc, ◌≤◌, ◌<◌, List, ◌++◌, length}
use mathlib.Core.List.{IsPrefix}
use Rattle.gas_rows.specs.Row.{RowModel}
use Rattle.gas_pipe_model.specs.Line.{Line, State, owed_on, grown}

-- after a put on belt k of the next row owed, and after a take from it of the next row put
abbrev pub after_put : Line → State → ℕ → State
after_put l s k = record s { put = grown s.put k (owed_on l s k) }

abbrev pub after_take : State → ℕ → State
after_take s k = record s { taken = grown s.taken k (s.put k) }

-- the rows that belt k carries in the end: each worker puts what it owes for the rows of the belt before
abbrev pub rows_in_the_end : Line → ℕ → List RowModel
rows_in_the_end l zero = l.rows
rows_in_the_end l (suc k) = l.owe (suc k) (rows_in_the_end l k)

-- What makes it a line: what a worker owes only grows at its end as rows come, is complete when all have come, and is never more than came;
-- and a belt has room for a row.
pub record IsLine (l : Line) : Type 0 where
  pub grows : (k : ℕ) (xs ys : List RowModel) → length (xs ++ ys) ≤ length l.rows → IsPrefix (l.owe k xs) (l.owe k (xs ++ ys))
  pub all : (k : ℕ) (xs : List RowModel) → length xs ≡ length l.rows → length (l.owe k xs) ≡ length l.rows
  pub no_more : (k : ℕ) (xs : List RowModel) → length (l.owe k xs) ≤ length xs
  pub room : 0 < l.capacity
