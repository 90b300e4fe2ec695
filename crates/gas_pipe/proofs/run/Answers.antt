use Rattle.std.proofs.Common.{rules, ◌+◌, ◌<◌, ◌∙◌, ap, sym, length, List, map, ℕ, arith}
use Rattle.gas_geom.proofs.Runs.{count-generation}
use Rattle.gas_rows.specs.Chirality.{chirality_bit}
use Rattle.gas_belt.specs.Belt.{CarriedModel}
use Rattle.gas_pipe.proofs.Settled.{all_put, all_taken, belts_made_are, rows_return, is_lattice}
use Rattle.gas_pipe.proofs.run.Goals as goal

pub returns-clause-put : goal.returns-clause-put
returns-clause-put g c = ap (map (λ (b : CarriedModel). b.put)) c.in_ok-run_line.ensures.belts ∙ all_put _

pub returns-clause-taken : goal.returns-clause-taken
returns-clause-taken g c = ap (map (λ (b : CarriedModel). b.taken)) c.in_ok-run_line.ensures.belts ∙ all_taken _

pub returns-clause-rows_return : goal.returns-clause-rows_return
returns-clause-rows_return g c =
    let from = c.in_ok-feeder.ensures in
    let plan = c.generations.ensures.accepted in
    let some : 0 < c.args.plan.generations = omega (arith, c.if-generations-eq0.false, c.generations.ensures.value) in
    rows_return g.G.Gas.rules (record { chirality = c.args.chirality; first = c.args.first; lattice = c.args.lattice.now; plan = c.args.plan })
    (record { lattice = is_lattice g.G.Gas.rules c.args.lattice.now c.in_ok-feeder.feeder from.channel from.rows from.whole; workers = search rules; room = search rules })
    (search rules) some c.in_ok-run_line.field-0 c.in_ok-run_line.ensures

pub returns-clause-belts_made : goal.returns-clause-belts_made
returns-clause-belts_made g c more =
    let ran = c.in_ok-run_line.ensures in
    ap (λ (l : List CarriedModel). length l) ran.belts
    ∙ belts_made_are g.G.Gas.rules (record { chirality = c.args.chirality; first = c.args.first; lattice = c.args.lattice.now; plan = c.args.plan }) more
    ∙ ap (λ (n : ℕ). n + 1) (sym ran.threads)

pub returns-clause-number : goal.returns-clause-number
returns-clause-number g c n few =
    let bound = g.met.G.Gas g.world.𝓛 g.world.𝓜 g.world.𝓡 ((λ s x. x), (λ x. x), (λ x. x), λ x. x) in
    let from = c.in_ok-feeder.ensures in
    count-generation g.G.Gas.rules bound.laws c.args.lattice.now.channel
    (chirality_bit c.args.chirality c.args.lattice.now.channel.width) c.args.first c.args.lattice.now.rows
    (is_lattice g.G.Gas.rules c.args.lattice.now c.in_ok-feeder.feeder from.channel from.rows from.whole) n
