-- Inner words: what functions of this crate promise one another. No public contract cites them.
-- Here: the turns that a line on one thread made. They are not among the words of LocalLine, which the type of a line names.
use Rattle.std.specs.Prelude.{ℕ, List}
use Rattle.gas_geom.specs.Gas.{Rules}
use Rattle.gas_geom.specs.declared.gas.Gas.{Ghosts}
use Rattle.gas_pipe_model.specs.Pass.{RunInputModel, after}
use Rattle.gas_pipe_replay.specs.declared.local_line.LocalLine.{LocalLine}
use Rattle.gas_pipe_replay.specs.Inner.LocalLine.{Shows}

-- the line may have come to its state by these turns of the pass
abbrev pub HasMade : {G : Type 0} {g : Ghosts G} → Rules → RunInputModel → LocalLine G g → List ℕ → Type 0
HasMade gas input line turns = Shows gas input line.feeder line.workers.items line.belts.items (after gas input 0 turns)
