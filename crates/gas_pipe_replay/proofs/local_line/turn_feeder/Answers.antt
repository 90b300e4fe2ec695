use Rattle.std.proofs.Common.{◌≡◌, ◌<◌, ◌∷◌, [], length, get_or, sym, ◌∙◌, arith}
use Rattle.gas_pipe_model.specs.Line.{start}
use Rattle.gas_pipe_model.specs.Pass.{line_of, after}
use Rattle.gas_pipe_members.specs.Belt.{BeltModel}
use Rattle.gas_pipe_model.proofs.Generations.{pass_fits}
use Rattle.gas_pipe_model.proofs.Rounds.{run_append}
use Rattle.gas_pipe_replay.proofs.Slots.{two_writes, read_before, read_behind}
use Rattle.gas_pipe_replay.proofs.FeederSteps.{feeder_step_at}
use Rattle.gas_pipe_replay.proofs.local_line.turn_feeder.Goals as goal

pub returns-clause-shows : goal.returns-clause-shows
returns-clause-shows g c input ws turns sh =
    let none : BeltModel = record { rows = []; capacity = 0 } in
    let bs = c.args.belts.now in
    let before = c.split_at_mut-before.result.0.now in
    let behind = c.split_at_mut-before.result.1.now in
    let parts = c.split_at_mut-before.ensures.value in
    let front = c.split_at_mut-before.ensures.front_len in
    let at : length before ≡ input.plan.threads = omega (arith, front, sh.belts_are) in
    let some = sh.is_input.workers in
    let high : input.plan.threads < length bs = omega (arith, sh.belts_are) in
    let x = read_before bs before behind 0 input.plan.threads c.index-before-0.result none parts at some c.index-before-0.is in
    let y = read_behind bs before behind input.plan.threads c.index-behind-0.result none parts at high c.index-behind-0.is in
    let to = get_or before 0 c.index-before-0.result in
    let from = get_or behind 0 c.index-behind-0.result in
    let step = feeder_step_at g.G.Gas.rules input c.args.feeder.now c.turn.new.self ws bs (after g.G.Gas.rules input 0 turns) c.turn.new.put c.turn.new.take
    g.met.G.Gas.laws (pass_fits g.G.Gas.rules input sh.is_input 0 turns) sh
    c.turn.result to from (sym c.index-before-0.is ∙ x) (sym c.index-behind-0.is ∙ y) c.turn.ensures.channel c.turn.ensures.turned in
    rw (two_writes bs before behind 0 input.plan.threads c.turn.new.put c.turn.new.take parts at some)
    (rw (run_append (line_of g.G.Gas.rules input 0) turns (0 ∷ []) start) step)
