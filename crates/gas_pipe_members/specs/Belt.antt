-- A belt with both its ends on one thread.
use Rattle.std.specs.Prelude.{ℕ, List}
use Rattle.gas_rows.specs.Row.{RowModel}

-- the rows under way, the next to be taken first, and how many there can be
pub record BeltModel : Type 0 where
  pub rows : List RowModel
  pub capacity : ℕ
