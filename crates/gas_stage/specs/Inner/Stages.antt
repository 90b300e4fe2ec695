-- Inner words: what functions of this crate promise one another. No public contract cites them.
-- Here: stages one behind another, as a list.
use Rattle.std.specs.Prelude.{◌≡◌, ℕ, Option, None, List, [], ◌∷◌, length}
use Rattle.gas_geom.specs.Gas.{Rules}
use Rattle.gas_geom.specs.Channel.{ChannelModel}
use Rattle.gas_rows.specs.declared.chirality.Chirality.{Chirality}
use Rattle.gas_stage.specs.Stage.{StageModel}
use Rattle.gas_stage.specs.Stages.{MayEachHaveBeenFed}

-- stages of that channel and chirality with no open pass
abbrev pub AreClosed : ChannelModel → Chirality → List StageModel → Type 0
AreClosed channel chirality [] = Unit {0}
AreClosed channel chirality (s ∷ stages) =
    (s.channel ≡ channel) × (s.chirality ≡ chirality) × (s.pass ≡ None) × AreClosed channel chirality stages

-- stages of that channel and chirality in an open pass, by some rows, so many, after so many of the stages were flushed
pub record IsUnderWay (gas : Rules) (channel : ChannelModel) (chirality : Chirality) (flushed fed : ℕ) (stages : List StageModel) : Type 0 where
  pub es : List (Option ℕ)
  pub q : List (List ℕ)
  pub fed_is : fed ≡ length q
  pub fits : MayEachHaveBeenFed gas channel chirality flushed stages es q
