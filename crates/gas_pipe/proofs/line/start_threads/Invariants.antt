use Rattle.std.proofs.Common.{◌≡◌, ◌+◌, ◌≤◌, ◌++◌, vec_len, vec_capacity, map}
use Rattle.std.specs.Vec.Iter.{into_iter_items, into_iter_len}
use Rattle.gas_pipe.specs.Inner.Links.{AllHaveCome, worker_of}
use Rattle.gas_pipe.proofs.line.start_threads.Given as goal

abbrev pub invariant-loop-worker : goal.invariant-loop-worker
invariant-loop-worker g l = record {
  come : AllHaveCome g.G.Gas.rules (into_iter_items l.worker-iterator);
  workers : map worker_of l.threads.items ++ into_iter_items l.worker-iterator ≡ into_iter_items l.initial.worker-iterator;
  room : vec_len l.threads + into_iter_len l.worker-iterator ≤ vec_capacity l.threads;
}
