use Rattle.std.proofs.Common.{length, ap, ◌∙◌, sym, subst}
use Rattle.gas_stage.specs.Inner.Passes.{AreBitsOf, kept}
use Rattle.gas_stage.proofs.Feeding.{collided-kept}
use Rattle.gas_stage.proofs.stage.collide_if.Goals as goal

pub returns-in-Some-clause-kept : goal.returns-in-Some-clause-kept
returns-in-Some-clause-kept g c =
    let gas = g.G.Gas.rules in
    let bits = c.args.bits.now in
    c.collide_row.ensures.collided
    ∙ collided-kept gas c.args.channel.now bits.chirality c.in-Some.generation (length bits.bits) c.args.y c.mask.result.now c.mask-in-Some.result.now c.args.row.now
    (subst (AreBitsOf gas bits.chirality (length bits.bits) c.in-Some.generation c.args.y) (sym c.mask-in-Some.ensures.bits) c.draw_for.ensures.collisions)
    c.requires.bits_wide c.requires.wide c.mask.ensures.row
    ∙ ap (λ p. kept gas c.args.channel.now bits.chirality p c.args.y c.args.row.now) (sym c.in-Some.is)
