-- How far each belt of a line is.
use Rattle.std.proofs.Common.{◌≡◌, ℕ, ◌+◌, ◌≤◌, List, [], ◌∷◌, ◌++◌, length, map, ap, sym, ◌∙◌, arith, length-append}
use Rattle.std.specs.List.{range_with_len}
use Rattle.std.proofs.lemmas.List.FromFn.{map-range_with_len_more}
use Rattle.gas_geom.specs.Gas.{Rules}
use Rattle.gas_pipe_model.specs.Line.{State}
use Rattle.gas_pipe_model.specs.Pass.{RunInputModel}
use Rattle.gas_pipe_members.specs.Belt.{BeltModel}
use Rattle.gas_pipe_members.specs.Worker.{WorkerModel}
use Rattle.gas_pipe_members.specs.Feeder.{FeederModel}
use Rattle.gas_pipe_replay.specs.Replay.{counts_of}
use Rattle.gas_pipe_replay.specs.Inner.LocalLine.{belt, Shows}
use Rattle.gas_pipe_replay.specs.declared.pass.Counts.{Counts}

pub counts_more : (gas : Rules) (input : RunInputModel) (f : FeederModel) (ws : List WorkerModel) (bs : List BeltModel) (s : State) → Shows gas input f ws bs s →
    (k : ℕ) → k ≤ input.plan.threads → (counts : List Counts) → counts ≡ map (counts_of s) (range_with_len 0 k) →
    (taken here : ℕ) → taken ≡ length (s.taken k) → here ≡ length (belt bs k).rows →
    counts ++ record { put = taken + here; taken = taken } ∷ [] ≡ map (counts_of s) (range_with_len 0 (k + 1))
counts_more gas input f ws bs s sh k h counts before taken here is_taken is_here =
    let put : taken + here ≡ length (s.put k) = omega (arith, is_taken, is_here, ap length (sh.holds k h), length-append (s.taken k) (belt bs k).rows) in
    ap (λ v. v ++ record { put = taken + here; taken = taken } ∷ []) before
    ∙ ap (λ n. map (counts_of s) (range_with_len 0 k) ++ record { put = n; taken = taken } ∷ []) put
    ∙ ap (λ n. map (counts_of s) (range_with_len 0 k) ++ record { put = length (s.put k); taken = n } ∷ []) is_taken
    ∙ sym (map-range_with_len_more (counts_of s) 0 k k (let e : 0 + k ≡ k = omega arith in e))
