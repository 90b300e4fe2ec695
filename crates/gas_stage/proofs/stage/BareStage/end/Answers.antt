use Rattle.std.proofs.Common.{◌≡◌, ◌-◌, ℕ, List, [], IsSome, unwrap_or, length, refl, ap, ◌∙◌, sym, subst}
use Rattle.gas_rows.specs.Streaming.{AreRowsAbout}
use Rattle.gas_stage.specs.Inner.Passes.{AreBitsOf}
use Rattle.gas_stage.specs.Stage.{StageModel}
use Rattle.gas_stage.proofs.Feeding.{flush-gives, not_handing_on, advanced-kept}
use Rattle.gas_stage.proofs.stage.BareStage.end.Goals as goal

pub returns-clause-gives_all : goal.returns-clause-gives_all
returns-clause-gives_all g c = λ p q fits.
    let gas = g.G.Gas.rules in
    let s = c.self.inside in
    let ch = s.channel.now in
    let some = c.in_ok-last.ensures.value in
    let held = ap (λ v. unwrap_or v []) some in
    flush-gives gas _ c.args.self.now c.self.view_is p q c.in_ok-last.last c.replace.result c.args.then fits
    (not_handing_on s.mode s.last c.in_ok-last.last some c.self.invariant.hands_on)
    (c.self.invariant.last_fed (subst IsSome some refl))
    (subst (λ (v : StageModel). v.fed ≡ v.channel.height) (sym c.self.view_is) c.requires.all)
    (λ at about. c.replace.ensures.value ∙ c.stream_into.ensures.streamed at
    (subst (λ (m : List ℕ). AreRowsAbout ch at (s.fed - 1) s.before_last m c.in_ok-last.last) (sym held) about)
    ∙ advanced-kept gas ch s.random_bits.chirality c.args.then c.is_some.result (length s.random_bits.bits) (s.fed - 1) c.mask.result.now at c.is_some.ensures
    (λ n e. subst (AreBitsOf gas s.random_bits.chirality (length s.random_bits.bits) n (s.fed - 1)) (sym c.mask.ensures.bits) (c.draw_if.ensures.drawn n e)) c.self.invariant.bits_wide)
