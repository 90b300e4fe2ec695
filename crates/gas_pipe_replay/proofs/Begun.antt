-- A line before its first turn.
use Rattle.std.proofs.Common.{◌≡◌, ℕ, suc, ◌+◌, List, [], ◌∷◌, ◌++◌, length, ap, sym, ◌∙◌, subst, arith}
use Rattle.std.proofs.lemmas.List.{length_push}
use Rattle.gas_geom.specs.Gas.{Rules}
use Rattle.gas_pipe_model.specs.Pass.{RunInputModel, IsRunInput, rows_on, after}
use Rattle.gas_pipe_members.specs.Belt.{BeltModel}
use Rattle.gas_pipe_members.specs.Worker.{WorkerModel}
use Rattle.gas_pipe_members.specs.Feeder.{FeederModel, MayHaveFed}
use Rattle.gas_pipe_replay.specs.Inner.LocalLine.{IsAt, HaveBegun, AreUnused, Shows}
use Rattle.gas_pipe_replay.proofs.Slots.{at_push}

-- one worker more has begun its pass
pub begun_more : (gas : Rules) (input : RunInputModel) (workers : List WorkerModel) (n : ℕ) (w : WorkerModel) → HaveBegun gas input workers n →
    IsAt gas input n w [] [] → HaveBegun gas input (workers ++ w ∷ []) (n + 1)
begun_more gas input workers n w begun at = (
  length_push workers w ∙ ap (λ k. k + 1) begun.0,
  (λ k d h. at_push workers w d k n begun.0 h (λ u. IsAt gas input k u [] [])
      (λ is. subst (λ i. IsAt gas input i w [] []) (sym is) at)
      (λ low. begun.1 k d low)),
)

pub begun_shows : (gas : Rules) (input : RunInputModel) (f : FeederModel) (workers : List WorkerModel) (belts : List BeltModel) → IsRunInput gas input →
    HaveBegun gas input workers input.plan.threads → AreUnused input.plan.capacity belts (input.plan.threads + 1) → f.channel ≡ input.lattice.channel → MayHaveFed f 1 (rows_on gas input 0 0) [] [] →
    Shows gas input f workers belts (after gas input 0 [])
begun_shows gas input f workers belts is begun unused channel fed = record {
  is_input = is;
  workers_are = begun.0;
  belts_are = (let e : length belts ≡ suc input.plan.threads = omega (arith, unused.0) in e);
  channel = channel;
  fed = fed;
  done = begun.1;
  holds = λ k h. ap (λ (b : BeltModel). b.rows) (unused.1 k (omega (arith, h)));
  capacity = λ k h. ap (λ (b : BeltModel). b.capacity) (unused.1 k (omega (arith, h)));
}
