use Rattle.std.proofs.Common.{◌-◌, ◌<◌, ◌≡◌, ℕ, Option, Some, List, [], IsSome, unwrap_or, length, refl, ap, ◌∙◌, sym, subst}
use Rattle.gas_rows.specs.Streaming.{AreRowsAbout}
use Rattle.gas_stage.specs.Inner.Passes.{AreBitsOf, open_pass, kept}
use Rattle.gas_stage.specs.Stage.{StageModel}
use Rattle.gas_stage.proofs.Feeding.{not_computing, hands_on-fits, hands_on-gives, pass-fits, pass-gives, advanced-kept}
use Rattle.gas_stage.proofs.stage.BareStage.pass_on.Goals as goal

-- the row itself enters as the stage keeps it
row_is : (o : Option (List ℕ)) (row kept : List ℕ) → o ≡ Some row → o ≡ Some kept → row ≡ kept
row_is o row kept is enters = ap (λ v. unwrap_or v []) (sym is ∙ enters)

pub returns-in_default-mode-clause-passes_on : goal.returns-in_default-mode-clause-passes_on
returns-in_default-mode-clause-passes_on g c = λ passes none.
    let s = c.self.inside in
    ap (λ r. Some r) (c.collide_if.ensures.kept ∙ ap (λ p. kept g.G.Gas.rules s.channel.now s.random_bits.chirality p s.fed c.in-Some.passed) none) ∙ sym c.in-Some.is

pub returns-in_default-mode-clause-fits : goal.returns-in_default-mode-clause-fits
returns-in_default-mode-clause-fits g c = λ p q r fits enters.
    let pass = ap (λ (v : StageModel). v.pass) c.self.view_is ∙ fits.pass in
    hands_on-fits g.G.Gas.rules _ c.args.self.now c.self.view_is p q r c.in-Some.passed fits (row_is _ _ _ c.in-Some.is enters) _
    (not_computing c.self.inside.mode p c.in_default-mode.not-Computes pass) refl refl

pub returns-in_default-mode-clause-gives : goal.returns-in_default-mode-clause-gives
returns-in_default-mode-clause-gives g c = λ p q r fits enters.
    let pass = ap (λ (v : StageModel). v.pass) c.self.view_is ∙ fits.pass in
    hands_on-gives g.G.Gas.rules _ c.args.self.now c.self.view_is p q r c.in-Some.passed fits (row_is _ _ _ c.in-Some.is enters) c.collide_if.new.row c.args.then
    (not_computing c.self.inside.mode p c.in_default-mode.not-Computes pass) c.collide_if.ensures.kept

pub returns-clause-fits : goal.returns-clause-fits
returns-clause-fits g c = λ p q r fits enters.
    let last_is = ap (λ v. unwrap_or v []) c.in-Some-last.is in
    let enters_as = c.swap.ensures.y_after ∙ row_is _ _ _ c.in-Some.is enters in
    pass-fits g.G.Gas.rules _ c.args.self.now c.self.view_is c.in-Computes.field-0 (ap open_pass c.in-Computes.is)
    p q r c.swap.new.y c.draw_if.new.bits.chirality c.swap-2.new.y fits enters_as c.draw_if.ensures.chirality
    (λ some. c.swap-2.ensures.y_after ∙ c.swap.ensures.x_after ∙ sym last_is)

pub returns-clause-gives : goal.returns-clause-gives
returns-clause-gives g c = λ p q r fits enters.
    let gas = g.G.Gas.rules in
    let s = c.self.inside in
    let ch = s.channel.now in
    let last_is = ap (λ v. unwrap_or v []) c.in-Some-last.is in
    pass-gives gas _ c.args.self.now c.self.view_is c.in-Computes.field-0 (ap open_pass c.in-Computes.is)
    p q r c.swap.new.y c.swap-3.new.x c.args.then fits (c.swap.ensures.y_after ∙ row_is _ _ _ c.in-Some.is enters)
    (c.self.invariant.last_fed (subst IsSome (sym c.in-Some-last.is) refl))
    (subst (λ (v : StageModel). v.fed < v.channel.height) (sym c.self.view_is) c.requires.room)
    (λ at about. c.swap-3.ensures.x_after ∙ c.stream_into.ensures.streamed at
    (subst (λ (m : List ℕ). AreRowsAbout ch at (s.fed - 1) s.before_last m c.in-Some.passed) last_is
    (subst (λ (b : List ℕ). AreRowsAbout ch at (s.fed - 1) s.before_last (unwrap_or s.last []) b) c.swap.ensures.y_after about))
    ∙ advanced-kept gas ch s.random_bits.chirality c.args.then c.is_some.result (length s.random_bits.bits) (s.fed - 1) c.mask.result.now at c.is_some.ensures
    (λ n e. subst (AreBitsOf gas s.random_bits.chirality (length s.random_bits.bits) n (s.fed - 1)) (sym c.mask.ensures.bits) (c.draw_if.ensures.drawn n e)) c.self.invariant.bits_wide)
