use Rattle.std.proofs.Common.{◌≡◌, ◌+◌, ℕ, [], Option, Some, None, if◌then◌else◌, nat_lt, subst, arith}
use Rattle.std.proofs.lemmas.Bool.Decides.{nat_tests}
use Rattle.gas_stage.specs.Stage.{MayHaveBeenFed}
use Rattle.gas_stage.proofs.Composed.{written, closed_behind, begins}
use Rattle.gas_stage.proofs.stages.+begin_from.Goals as goal
use Rattle.gas_stage.proofs.stages.+begin_from.Goals.{then-computes, else-computes}

pub returns-after-computes-clause-before : goal.returns-after-computes-clause-before
returns-after-computes-clause-before g t c =
    (written c.args.stages.now c.begin_from.new.stages c.args.k c.begin.new.self c.if-k-stages.true c.begin_from.ensures.before).0

pub returns-after-computes-clause-fits : goal.returns-after-computes-clause-fits
returns-after-computes-clause-fits g t c ch h closed =
    let f : ℕ → Option ℕ = λ k. if nat_lt k c.args.computing then Some (c.args.first + k) else None in
    let e : c.if-computes.begin ≡ f c.args.k =
    elim c.if-computes.branch [ then-computes w ↦ grind (arith, nat_tests) | else-computes w ↦ grind (arith, nat_tests) ] in
    begins g.G.Gas.rules ch h c.args.stages.now c.args.k c.index-stages-k.result c.if-k-stages.true c.begin.new.self c.begin_from.new.stages
    c.begin_from.ensures.before f closed (rw (← e) c.begin.ensures.opened)
    (subst (λ o. MayHaveBeenFed g.G.Gas.rules c.begin.new.self o []) e c.begin.ensures.fits)
    (c.begin_from.ensures.fits ch h
    (closed_behind g.G.Gas.rules ch h c.args.stages.now c.args.k c.index-stages-k.result c.if-k-stages.true c.begin.new.self closed))
