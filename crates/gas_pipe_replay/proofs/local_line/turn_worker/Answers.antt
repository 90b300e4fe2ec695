use Rattle.std.proofs.Common.{◌≡◌, ◌<◌, ◌∷◌, [], length, ◌-◌, suc, get_or, sym, ap, ◌∙◌, arith}
use Rattle.std.proofs.lemmas.List.{get_or_read}
use Rattle.gas_pipe_model.specs.Line.{start}
use Rattle.gas_pipe_model.specs.Pass.{line_of, after}
use Rattle.gas_pipe_members.specs.Belt.{BeltModel}
use Rattle.gas_pipe_replay.specs.Inner.LocalLine.{belt}
use Rattle.gas_pipe_model.proofs.Generations.{pass_fits}
use Rattle.gas_pipe_model.proofs.Rounds.{run_append}
use Rattle.gas_pipe_replay.proofs.Slots.{two_writes, read_before, read_behind}
use Rattle.gas_pipe_replay.proofs.WorkerSteps.{worker_step_at}
use Rattle.gas_pipe_replay.proofs.local_line.turn_worker.Goals as goal

pub returns-clause-shows : goal.returns-clause-shows
returns-clause-shows g c input f turns sh =
    let none : BeltModel = record { rows = []; capacity = 0 } in
    let bs = c.args.belts.now in
    let before = c.split_at_mut-before.result.0.now in
    let behind = c.split_at_mut-before.result.1.now in
    let who = c.args.who in
    let parts = c.split_at_mut-before.ensures.value in
    let at = c.split_at_mut-before.ensures.front_len in
    let next : suc (who - 1) ≡ who = omega (arith, c.requires.low) in
    let high : who < length bs = omega (arith, c.requires.belts, c.requires.high) in
    let low : who - 1 < length c.args.workers.now = omega (arith, c.requires.low, c.requires.high) in
    let below : who - 1 < who = omega (arith, c.requires.low) in
    let in_line : who - 1 < input.plan.threads = omega (arith, low, sh.workers_are) in
    let x = read_before bs before behind (who - 1) who c.index-before-who.result none parts at below c.index-before-who.is in
    let y = read_behind bs before behind who c.index-behind-0.result none parts at high c.index-behind-0.is in
    let w = get_or c.args.workers.now (who - 1) c.index-workers-who.result in
    let from = get_or before (who - 1) c.index-before-who.result in
    let to = get_or behind 0 c.index-behind-0.result in
    let step = worker_step_at g.G.Gas.rules input f c.args.workers.now bs (after g.G.Gas.rules input 0 turns) (who - 1) w c.turn.new.self c.turn.new.take c.turn.new.put
    g.met.G.Gas.laws (pass_fits g.G.Gas.rules input sh.is_input 0 turns) in_line sh
    (λ d. sym (get_or_read c.args.workers.now (who - 1) c.index-workers-who.result low c.index-workers-who.is d) ∙ c.index-workers-who.is)
    c.turn.result from to (sym c.index-before-who.is ∙ x) (sym c.index-behind-0.is ∙ y ∙ ap (λ n. belt bs n) (sym next)) c.turn.ensures.same c.turn.ensures.turned in
    rw (two_writes bs before behind (who - 1) who c.turn.new.take c.turn.new.put parts at below)
    (rw (run_append (line_of g.G.Gas.rules input 0) turns (who ∷ []) start) (rw next at step))
