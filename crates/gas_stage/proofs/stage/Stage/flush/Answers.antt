use Rattle.std.proofs.Common.{◌≡◌, ◌++◌, sym, subst}
use Rattle.std.specs.Option.{option_to_list}
use Rattle.gas_stage.specs.Stage.{StageModel, MayHaveBeenFed, owed, given}
use Rattle.gas_stage.proofs.Feeding.{returned_raw}
use Rattle.gas_stage.proofs.stage.Stage.flush.Goals as goal

pub returns-clause-gives_all : goal.returns-clause-gives_all
returns-clause-gives_all g c = λ p q fits.
    let gas = g.G.Gas.rules in
    let s = c.self.inside.bare in
    subst (λ (v : StageModel). owed gas v.channel v.chirality p q ≡ given gas v.channel v.chirality p q ++ option_to_list c.«end».result) c.self.view_is
    (returned_raw gas s.channel s.chirality _ _ c.«end».result
    (c.«end».ensures.gives_all p q (subst (λ (v : StageModel). MayHaveBeenFed gas v p q) (sym c.self.view_is) fits)))
