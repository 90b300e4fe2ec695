-- The size of a channel.
use Rattle.std.specs.Prelude.{ℕ, ◌≤◌}

pub record SizeModel : Type 0 where
  pub width : ℕ
  pub height : ℕ

-- the limits of a size
pub record IsSize (width height : ℕ) : Type 0 where
  pub some_columns : 1 ≤ width
  pub few_columns : width ≤ 65536
  pub some_rows : 1 ≤ height
  pub few_rows : height ≤ 65536
