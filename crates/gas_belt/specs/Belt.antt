-- The ends of a belt, as their callers see them.
use Rattle.std.specs.Prelude.{ℕ, List, Option}
use Rattle.std.specs.Global.{Global}
use denote.RawPtr.{Ptr}
use Rattle.rtrb.specs.Shared.{Names}
use Rattle.gas_rows.specs.Row.{RowModel}

-- which belt it is: the width of its rows, its capacity in rows, and its ring, by its place in memory and its names in proofs
pub record Belt : Type 0 where
  pub width : ℕ
  pub capacity : ℕ
  pub ring : Ptr × Ptr × Names × Global

-- the end of a belt that rows are put on, open or closed: its belt, all rows put so far, in order, the row of the newest put, if it was not
-- handed out since, and the number of rows for which the belt is known to have places
pub record Sender : Type 0 where
  pub belt : Belt
  pub put : List RowModel
  pub spare : Option RowModel
  pub limit : ℕ

-- the end that rows are taken from: its belt, all rows taken so far, in order, the number of its spare rows, how many it has room for, and
-- the number of rows that are known to have come, taken ones too
pub record Receiver : Type 0 where
  pub belt : Belt
  pub taken : List RowModel
  pub held : ℕ
  pub most : ℕ
  pub come : ℕ

-- what a belt carried: all rows put on it, and all rows taken from it, in order
pub record CarriedModel : Type 0 where
  pub put : List RowModel
  pub taken : List RowModel
