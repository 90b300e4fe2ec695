use Rattle.std.proofs.Common.{◌≡◌, ◌∷◌, [], ◌++◌, List, length, Option, ℕ, Some, None, ap, ◌∙◌, sym, subst, refl}
use Rattle.std.specs.Option.{option_to_list}
use Rattle.gas_stage.specs.Inner.Passes.{kept}
use Rattle.gas_stage.specs.Stage.{StageModel, MayHaveBeenFed, given}
use Rattle.gas_stage.proofs.Feeding.{returned_raw}
use Rattle.gas_stage.proofs.stage.Stage.feed.Given.{Over}
use Rattle.gas_stage.proofs.stage.Stage.feed.Goals.{After-pass_on}
use Rattle.gas_stage.proofs.stage.Stage.feed.Goals as goal

-- the row is passed on as the stage keeps it
enters : (g : Over) (c : After-pass_on g) (p : Option ℕ) (q : List (List ℕ)) → MayHaveBeenFed g.G.Gas.rules c.args.self.now p q →
    c.collide.new.row ≡ kept g.G.Gas.rules c.collide.new.self.channel c.collide.new.self.chirality p (length q) c.args.row
enters g c p q fits =
    let gas = g.G.Gas.rules in
    let s = c.self.inside.bare in
    let now = subst (λ (v : StageModel). MayHaveBeenFed gas v p q) (sym c.self.view_is) fits in
    c.collide.ensures.kept p now.pass
    ∙ ap (λ y. kept gas s.channel s.chirality p y c.args.row) now.fed
    ∙ ap (λ (v : StageModel). kept gas v.channel v.chirality p (length q) c.args.row) (sym c.collide.ensures.same)

here : (g : Over) (c : After-pass_on g) (p : Option ℕ) (q : List (List ℕ)) → MayHaveBeenFed g.G.Gas.rules c.args.self.now p q →
    MayHaveBeenFed g.G.Gas.rules c.collide.new.self p q
here g c p q fits = subst (λ (v : StageModel). MayHaveBeenFed g.G.Gas.rules v p q) (sym (c.collide.ensures.same ∙ c.self.view_is)) fits

pub returns-clause-passes_on : goal.returns-clause-passes_on
returns-clause-passes_on g c = λ passes.
    c.pass_on.ensures.passes_on (ap (λ (v : StageModel). v.pass) (c.collide.ensures.same ∙ c.self.view_is) ∙ passes) refl
    ∙ ap (λ r. Some r) (c.collide.ensures.kept None (ap (λ (v : StageModel). v.pass) c.self.view_is ∙ passes))

pub returns-clause-fits : goal.returns-clause-fits
returns-clause-fits g c = λ p q fits. c.pass_on.ensures.fits p q c.args.row (here g c p q fits) (ap (λ r. Some r) (enters g c p q fits))

pub returns-clause-gives : goal.returns-clause-gives
returns-clause-gives g c = λ p q fits.
    subst (λ (v : StageModel). given g.G.Gas.rules v.channel v.chirality p (q ++ c.args.row ∷ [])
    ≡ given g.G.Gas.rules v.channel v.chirality p q ++ option_to_list c.pass_on.new.row) (c.collide.ensures.same ∙ c.self.view_is)
    (returned_raw g.G.Gas.rules c.collide.new.self.channel c.collide.new.self.chirality _ _ c.pass_on.new.row
    (c.pass_on.ensures.gives p q c.args.row (here g c p q fits) (ap (λ r. Some r) (enters g c p q fits))))
