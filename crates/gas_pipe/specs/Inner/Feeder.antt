-- Inner words: what functions of this crate promise one another. No public contract cites them.
-- The feeder of a run.
use Rattle.std.specs.Prelude.{◌≡◌, ◌+◌, ◌<◌, ◌≤◌, List, [], length}
use Rattle.std.specs.Int.{div_ceil}
use Rattle.gas_geom.specs.Gas.{Rules}
use Rattle.gas_rows.specs.Row.{RowModel}
use Rattle.gas_belt.specs.Belt.{Belt, Sender, Receiver}
use Rattle.gas_pipe_model.specs.Pass.{RunInputModel, IsRunInput}
use Rattle.gas_pipe_members.specs.Feeder.{FeederModel, MayHaveFed}

-- in all passes over the input's lattice the feeder may have come to its state by putting and taking these rows, and there is a
-- generation to compute
pub record MayHaveFedInput (gas : Rules) (input : RunInputModel) (f : FeederModel) (put took : List RowModel) : Type 0 where
  pub is_input : IsRunInput gas input
  pub some : 0 < input.plan.generations
  pub channel : f.channel ≡ input.lattice.channel
  pub fed : MayHaveFed f (div_ceil input.plan.generations input.plan.stages) input.lattice.rows put took

-- the feeder of a run, and its two ends
pub record LineFeederModel : Type 0 where
  pub feeder : FeederModel
  pub tx : Sender
  pub rx : Receiver

-- the feeder of a run of this input, before its first turn
pub record HasBegun (gas : Rules) (input : RunInputModel) (f : FeederModel) : Type 0 where
  pub fed : MayHaveFedInput gas input f [] []
  pub spares : f.spares ≡ 0

-- In a run of this input it put and took the rows of its ends. Of each row that was put and has not come back it keeps the spare row, so the
-- end that it takes from has two.
pub record HasFed (gas : Rules) (input : RunInputModel) (f : LineFeederModel) : Type 0 where
  pub fed : MayHaveFedInput gas input f.feeder f.tx.put f.rx.taken
  pub spares : f.feeder.spares + length f.rx.taken ≡ length f.tx.put
  pub held : 2 ≤ f.rx.held
  pub room : 2 ≤ f.rx.most

-- the belt that it puts on, and the belt that it takes from
abbrev pub belts_of : LineFeederModel → Belt × Belt
belts_of f = (f.tx.belt, f.rx.belt)
