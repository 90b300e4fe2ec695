use Rattle.std.proofs.Common.{◌≡◌, ◌+◌, ◌*◌, ℕ, length, sym, ap, subst, ◌∙◌, arith}
use Rattle.gas_rows.specs.Chirality.{chirality_bit}
use Rattle.gas_geom.proofs.Runs.{count-generation}
use Rattle.gas_geom.specs.Lattice.{LatticeModel}
use Rattle.gas_pipe_model.specs.Line.{HasRounds, start, is_done}
use Rattle.gas_pipe_model.specs.Plan.{PlanModel}
use Rattle.gas_pipe_model.specs.Pass.{RunInputModel, line_of, after, rows_on}
use Rattle.gas_pipe_replay.specs.Inner.LocalLine.{Shows}
use Rattle.gas_pipe_replay.specs.Replay.{ReplayModel, input_of}
use Rattle.gas_pipe_replay.proofs.Finished.{one_pass, stands, done_is_some}
use Rattle.gas_pipe_model.proofs.Generations.{pass_is_line, rows_high}
use Rattle.gas_pipe_model.proofs.Rounds.{done_after}
use Rattle.gas_pipe_replay.proofs.replay.Goals as goal

pub returns-clause-state : goal.returns-clause-state
returns-clause-state g c =
    let input : RunInputModel = input_of c.args.chirality c.args.first c.args.lattice.now c.args.plan in
    let turns = c.args.turns.now in
    let shows = c.run.ensures input (subst (λ (p : PlanModel). Shows g.G.Gas.rules
    (record { chirality = c.args.chirality; first = c.args.first; lattice = c.args.lattice.now; plan = p })
    c.in_ok-line.line.feeder c.in_ok-line.line.workers.items c.in_ok-line.line.belts.items start) c.with_thread_each.ensures.made c.in_ok-line.ensures.begun) in
    let enough = one_pass c.args.plan.generations c.args.plan.stages shows.is_input.workers (omega (arith, c.passes.ensures.value, c.if-passes-gt1.false)) in
    stands g.G.Gas.rules c.args.chirality c.args.first c.args.lattice.now c.args.plan turns c.new-3.result
    (λ none. omega (arith, none, c.generations.ensures.value, c.if-generations-eq0.false)) enough
    (ap (λ (r : ReplayModel). r.lattice) c.new-3.ensures ∙ c.finish.ensures input turns shows)
    (ap (λ (r : ReplayModel). r.belts) c.new-3.ensures ∙ c.in_ok-belts.ensures.value input turns shows)

pub returns-clause-done : goal.returns-clause-done
returns-clause-done g c rounds =
    let input : RunInputModel = input_of c.args.chirality c.args.first c.args.lattice.now c.args.plan in
    let turns = c.args.turns.now in
    let shows = c.run.ensures input (subst (λ (p : PlanModel). Shows g.G.Gas.rules
    (record { chirality = c.args.chirality; first = c.args.first; lattice = c.args.lattice.now; plan = p })
    c.in_ok-line.line.feeder c.in_ok-line.line.workers.items c.in_ok-line.line.belts.items start) c.with_thread_each.ensures.made c.in_ok-line.ensures.begun) in
    let high : c.args.lattice.now.channel.height ≡ length (rows_on g.G.Gas.rules input 0 0) = sym (rows_high g.G.Gas.rules input shows.is_input 0 0) in
    let last : LatticeModel = record c.args.lattice.now { rows = rows_on g.G.Gas.rules input 0 input.plan.threads } in
    done_is_some (is_done (line_of g.G.Gas.rules input 0) (after g.G.Gas.rules input 0 turns)) last c.new-3.result.lattice
    (ap (λ (r : ReplayModel). r.lattice) c.new-3.ensures ∙ c.finish.ensures input turns shows)
    (done_after (line_of g.G.Gas.rules input 0) (pass_is_line g.G.Gas.rules input shows.is_input 0) turns
    (subst (λ (n : ℕ). HasRounds c.args.plan.stages (2 * n * (c.args.plan.stages + 1)) turns) high rounds))

pub returns-clause-number : goal.returns-clause-number
returns-clause-number g c n few =
    count-generation g.G.Gas.rules g.met.G.Gas.laws c.args.lattice.now.channel
    (chirality_bit c.args.chirality c.args.lattice.now.channel.width) c.args.first c.args.lattice.now.rows c.in_ok-line.ensures.input.lattice n
