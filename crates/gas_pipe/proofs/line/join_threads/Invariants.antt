use Rattle.std.proofs.Common.{◌≡◌, ◌+◌, ◌≤◌, vec_len, vec_capacity}
use Rattle.std.specs.Vec.Iter.{into_iter_items, into_iter_len}
use Rattle.gas_pipe_model.specs.Pass.{RunInputModel}
use Rattle.gas_pipe.specs.Inner.Feeder.{LineFeederModel}
use Rattle.gas_pipe.specs.Inner.Links.{jobs_of, HaveMet}
use Rattle.gas_pipe.proofs.line.join_threads.Given as goal

abbrev pub invariant-loop-thread : goal.invariant-loop-thread
invariant-loop-thread g l = record {
  met : (input : RunInputModel) (f : LineFeederModel) → HaveMet g.G.Gas.rules input f (jobs_of (into_iter_items l.initial.thread-iterator)) l.fn.first l.initial.carried.items →
      HaveMet g.G.Gas.rules input f (jobs_of (into_iter_items l.thread-iterator)) l.spent l.carried.items;
  room : vec_len l.carried + into_iter_len l.thread-iterator ≤ vec_capacity l.carried;
  capacity : vec_capacity l.carried ≡ vec_capacity l.initial.carried;
}
