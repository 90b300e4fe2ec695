use Rattle.std.proofs.Common.{rules, ◌∷◌, ◌++◌, [], ap, sym, subst, ◌∙◌}
use Rattle.gas_belt.specs.Belt.{CarriedModel}
use Rattle.gas_pipe.specs.Inner.Worker.{HasEnded}
use Rattle.gas_pipe.proofs.Meetings.{meets, one_belt, goes}
use Rattle.gas_pipe.proofs.line.meet_before.Goals as goal

pub meet-requires : goal.meet-requires
meet-requires g c =
    let met = c.requires.met in
    let ran = subst (HasEnded g.G.Gas.rules met.2) (sym c.ended.view_is) met.5 in
    record {
      one_belt = one_belt met.4 ran;
    }

pub unreachable-requires : goal.unreachable-requires
unreachable-requires g c =
    let met = c.requires.met in
    let ran = subst (HasEnded g.G.Gas.rules met.2) (sym c.ended.view_is) met.5 in
    let same = meets met.4 ran in
    let h = c.in_default.ensures.exactly.1 same in
    search rules

pub returns-clause-met : goal.returns-clause-met
returns-clause-met g c input f j others met ended =
    let ran = subst (HasEnded g.G.Gas.rules j) (sym c.ended.view_is) ended in
    let ends = c.in-Ok.ensures in
    goes met ran ends.equal (c.push_reserved.ensures.items ∙ ap (λ (x : CarriedModel). c.args.carried.now.items ++ x ∷ []) ends.carried)
