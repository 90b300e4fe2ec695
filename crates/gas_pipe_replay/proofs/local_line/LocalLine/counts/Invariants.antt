use Rattle.std.proofs.Common.{◌≡◌, ℕ, List, length, map}
use Rattle.std.specs.List.{range_with_len}
use Rattle.gas_pipe_model.specs.Pass.{RunInputModel, after}
use Rattle.gas_pipe_replay.specs.Replay.{counts_of}
use Rattle.gas_pipe_replay.specs.Inner.Made.{HasMade}
use Rattle.gas_pipe_replay.proofs.local_line.LocalLine.counts.Given as goal

abbrev pub invariant-loop-k : goal.invariant-loop-k
invariant-loop-k g l = (length l.counts.items ≡ l.k) × ((input : RunInputModel) (turns : List ℕ) →
    HasMade g.G.Gas.rules input l.fn.self turns → l.counts.items ≡ map (counts_of (after g.G.Gas.rules input 0 turns)) (range_with_len 0 l.k))
