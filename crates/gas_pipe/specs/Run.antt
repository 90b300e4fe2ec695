-- What a run returns.
use Rattle.std.specs.Prelude.{ℕ, List}
use Rattle.gas_geom.specs.Lattice.{LatticeModel}
use Rattle.gas_belt.specs.Belt.{CarriedModel}

-- a run as its callers see it: its lattice, the stages and threads of its line, its passes, and what their belts carried
pub record RunModel : Type 0 where
  pub lattice : LatticeModel
  pub stages : ℕ
  pub threads : ℕ
  pub passes : ℕ
  pub belts : List CarriedModel
