-- If the feeder's pass is closed, the line is done, and the feeder has the rows of the last generation.
use Rattle.std.proofs.Common.{rules, ◌≡◌, ℕ, ◌+◌, ◌*◌, ◌≤◌, ◌<◌, Bool, true, false, eqb, if◌then◌else◌, Option, Some, None, List, length, map, ap, sym, ◌∙◌, subst, arith}
use Rattle.std.specs.Prelude.{IsSome}
use Rattle.std.specs.Int.{div_ceil}
use Rattle.std.specs.List.{range_with_len}
use Rattle.std.proofs.lemmas.Bool.{eq-eqb, ne_eqb, and_from, and_right}
use Rattle.std.proofs.Math.Nat.{mul-le-mul_right}
use Rattle.std.proofs.lemmas.Grind.{div_ceil_times}
use Rattle.gas_geom.specs.Gas.{Rules, IsGas}
use Rattle.gas_geom.specs.Lattice.{LatticeModel}
use Rattle.gas_rows.specs.declared.chirality.Chirality.{Chirality}
use Rattle.gas_stage.specs.Evolution.{lattice_after}
use Rattle.gas_pipe_model.specs.Plan.{PlanModel}
use Rattle.gas_pipe_model.specs.Line.{State, is_done}
use Rattle.gas_pipe_model.specs.Pass.{RunInputModel, line_of, after, rows_on}
use Rattle.gas_pipe_members.specs.Belt.{BeltModel}
use Rattle.gas_pipe_members.specs.Worker.{WorkerModel}
use Rattle.gas_pipe_members.specs.Feeder.{FeederModel}
use Rattle.gas_pipe_members.specs.Inner.Queue.{emptied}
use Rattle.gas_pipe_replay.specs.Replay.{ReplayModel, counts_of, input_of, replay_of}
use Rattle.gas_pipe_replay.specs.declared.pass.Counts.{Counts}
use Rattle.gas_pipe_replay.specs.Inner.LocalLine.{Shows}
use Rattle.gas_pipe_model.proofs.Generations.{pass_carries, rows_high, ends_last}
use Rattle.gas_pipe_members.proofs.Emptied.{emptied_lattice}
use Rattle.gas_pipe_members.proofs.Feeds.{one_pass_holds}
use Rattle.gas_pipe_model.proofs.Wide.{after_is_lattice}

module _ (gas : Rules) (input : RunInputModel) (f : FeederModel) (ws : List WorkerModel) (bs : List BeltModel) (turns : List ℕ)
    (laws : IsGas gas) (sh : Shows gas input f ws bs (after gas input 0 turns)) where
  abbrev now : State
  now = after gas input 0 turns

  high : length (rows_on gas input 0 0) ≡ f.channel.height
  high = rows_high gas input sh.is_input 0 0 ∙ ap (λ c. c.height) (sym sh.channel)

  closed_done : f.to_take ≡ 0 → is_done (line_of gas input 0) now ≡ true
  unfolding is_done
  closed_done over =
      let fed = sh.fed in
      and_from (eqb (length (now.put 0)) (length (rows_on gas input 0 0))) (eqb (length (now.taken input.plan.threads)) (length (rows_on gas input 0 0)))
      (eq-eqb (length (now.put 0)) (length (rows_on gas input 0 0)) (omega (arith, high, over, fed.puts, fed.takes, fed.behind)))
      (eq-eqb (length (now.taken input.plan.threads)) (length (rows_on gas input 0 0)) (omega (arith, high, over, fed.takes)))

  pub unfinished : (f.to_take ≡ 0 → ⊥) → is_done (line_of gas input 0) now ≡ false
  unfolding is_done
  unfinished left =
      let fed = sh.fed in
      and_right (eqb (length (now.put 0)) (length (rows_on gas input 0 0))) (eqb (length (now.taken input.plan.threads)) (length (rows_on gas input 0 0)))
      (ne_eqb (length (now.taken input.plan.threads)) (length (rows_on gas input 0 0)) (λ e. left (omega (arith, high, e, fed.takes))))

  -- the rows that came back are the rows of the last belt
  holds_last : f.to_take ≡ 0 → f.rows ≡ rows_on gas input 0 input.plan.threads
  holds_last over =
      let back = (pass_carries gas input sh.is_input 0 turns (closed_done over) input.plan.threads (omega arith)).1 in
      one_pass_holds f (rows_on gas input 0 0) (now.put 0) (now.taken input.plan.threads) sh.fed high over
      ∙ ap (λ c. emptied c (now.taken input.plan.threads)) sh.channel
      ∙ ap (emptied input.lattice.channel) back
      ∙ emptied_lattice gas input.lattice.channel (rows_on gas input 0 input.plan.threads) (after_is_lattice gas input laws sh.is_input 0 input.plan.threads)

  pub finished : f.to_take ≡ 0 → (is_done (line_of gas input 0) now ≡ true) × (f.rows ≡ rows_on gas input 0 input.plan.threads)
  finished over = (closed_done over, holds_last over)

-- a plan that needs no more than one pass has a stage for each generation
pub one_pass : (generations stages : ℕ) → 0 < stages → div_ceil generations stages ≤ 1 → generations ≤ stages
one_pass generations stages some few =
    let enough : generations ≤ div_ceil generations stages * stages = (div_ceil_times generations stages some).0 in
    let one : div_ceil generations stages * stages ≤ 1 * stages = mul-le-mul_right stages few in
    omega arith

-- the state of the only pass of a plan, if it has generations to compute
module _ (gas : Rules) (chirality : Chirality) (first : ℕ) (lattice : LatticeModel) (plan : PlanModel) where
  abbrev input : RunInputModel
  input = input_of chirality first lattice plan

  pub stands : (turns : List ℕ) (r : ReplayModel) → (plan.generations ≡ 0 → ⊥) → plan.generations ≤ plan.stages →
      r.lattice ≡ (if is_done (line_of gas input 0) (after gas input 0 turns) then Some (record lattice { rows = rows_on gas input 0 plan.stages }) else None) →
      r.belts ≡ map (counts_of (after gas input 0 turns)) (range_with_len 0 (plan.stages + 1)) →
      r ≡ replay_of gas chirality first lattice plan turns
  stands turns r some enough is_lattice is_belts =
      let last : rows_on gas input 0 plan.stages ≡ (lattice_after gas chirality first lattice plan.generations).rows =
      ends_last gas input 0 (let more : plan.generations ≤ (0 + 1) * plan.stages = omega (arith, enough) in more) in
      rw (ne_eqb plan.generations 0 some)
      (ap (λ (l : Option LatticeModel). record { lattice = l; belts = r.belts })
      (is_lattice ∙ ap (λ rows. if is_done (line_of gas input 0) (after gas input 0 turns) then Some (record lattice { rows = rows }) else None) last)
      ∙ ap (λ (b : List Counts). record {
        lattice = if is_done (line_of gas input 0) (after gas input 0 turns) then Some (lattice_after gas chirality first lattice plan.generations) else None;
        belts = b;
      }) is_belts)

pub done_is_some : (b : Bool) (l : LatticeModel) (o : Option LatticeModel) → o ≡ (if b then Some l else None) → b ≡ true → IsSome o
done_is_some b l o is done = is_some o (is ∙ ap (λ (x : Bool). if x then Some l else None) done)
  where
    is_some : (o : Option LatticeModel) → o ≡ Some l → IsSome o
    is_some o e = subst IsSome (sym e) (let s : IsSome (Some l) = search rules in s)
