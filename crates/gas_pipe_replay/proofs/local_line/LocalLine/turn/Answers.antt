use Rattle.std.proofs.Common.{◌≡◌, ◌<◌, ◌++◌, ◌∷◌, [], length, drop, sym, ◌∙◌, subst, arith}
use Rattle.std.proofs.lemmas.Bool.{lt-ltb}
use Rattle.std.proofs.lemmas.List.{take_at}
use Rattle.gas_pipe_model.specs.Line.{start}
use Rattle.gas_pipe_model.specs.Pass.{line_of, after}
use Rattle.gas_pipe_replay.specs.Inner.LocalLine.{Shows}
use Rattle.gas_pipe_model.proofs.Turns.{turn_out}
use Rattle.gas_pipe_model.proofs.Rounds.{run_append}
use Rattle.gas_pipe_replay.proofs.local_line.LocalLine.turn.Goals as goal

pub returns-then-who-eq0 : goal.returns-then-who-eq0
returns-then-who-eq0 g c input turns sh =
    let belts : length c.turn_feeder.new.belts ≡ c.args.self.now.belts.len = omega (arith, c.turn_feeder.ensures.belts, c.args.self.now.belts.ok) in
    rw (take_at c.turn_feeder.new.belts (drop (length c.turn_feeder.new.belts) c.args.self.now.belts.items) c.args.self.now.belts.len belts)
    (subst (λ n. Shows g.G.Gas.rules input c.turn_feeder.new.feeder c.args.self.now.workers.items c.turn_feeder.new.belts (after g.G.Gas.rules input 0 (turns ++ n ∷ [])))
    (sym (let e : c.args.who ≡ 0 = omega (arith, c.if-who-eq0.true) in e))
    (c.turn_feeder.ensures.shows input c.args.self.now.workers.items turns (rw c.deref_mut.ensures.value sh)))

pub returns-then-who-len : goal.returns-then-who-len
returns-then-who-len g c input turns sh =
    let belts : length c.turn_worker.new.belts ≡ c.args.self.now.belts.len = omega (arith, c.turn_worker.ensures.belts, c.args.self.now.belts.ok) in
    let workers : length c.turn_worker.new.workers ≡ c.args.self.now.workers.len = omega (arith, c.turn_worker.ensures.workers, c.args.self.now.workers.ok) in
    rw (take_at c.turn_worker.new.belts (drop (length c.turn_worker.new.belts) c.args.self.now.belts.items) c.args.self.now.belts.len belts)
    (rw (take_at c.turn_worker.new.workers (drop (length c.turn_worker.new.workers) c.args.self.now.workers.items) c.args.self.now.workers.len workers)
    (c.turn_worker.ensures.shows input c.args.self.now.feeder turns (rw (c.deref_mut-then-who-len.ensures.value, c.deref_mut-then-who-len-2.ensures.value) sh)))

pub returns-else-who-len : goal.returns-else-who-len
returns-else-who-len g c input turns sh =
    let out : input.plan.threads < c.args.who = omega (arith, sh.workers_are, c.if-who-len.false) in
    subst (λ u. Shows g.G.Gas.rules input c.args.self.now.feeder c.args.self.now.workers.items c.args.self.now.belts.items u)
    (sym (run_append (line_of g.G.Gas.rules input 0) turns (c.args.who ∷ []) start ∙ (turn_out (line_of g.G.Gas.rules input 0) (after g.G.Gas.rules input 0 turns) c.args.who (lt-ltb input.plan.threads c.args.who out)).1)) sh
