-- Stages one behind another: each is fed the rows that the one before it returns.
use Rattle.std.specs.Prelude.{◌≡◌, ℕ, zero, suc, ◌+◌, nat_lt, if◌then◌else◌, Option, Some, None, List, [], ◌∷◌, length, map}
use Rattle.std.specs.List.{range_with_len}
use Rattle.gas_geom.specs.Gas.{Rules}
use Rattle.gas_geom.specs.Channel.{ChannelModel}
use Rattle.gas_rows.specs.declared.chirality.Chirality.{Chirality}
use Rattle.gas_stage.specs.Stage.{StageModel, MayHaveBeenFed, given, owed}

-- Stages as their callers see them.
pub record StagesModel : Type 0 where
  pub channel : ChannelModel
  pub chirality : Chirality
  -- from the one that is fed on
  pub stages : List StageModel
  -- how many of them, from the first on, were flushed since their last pass began: all, if no pass is open
  pub flushed : ℕ
  -- how many rows were fed in the open pass, or in the last
  pub fed : ℕ

-- what each of so many stages does in a pass: the first ones compute, from one generation after the other, and the others hand rows on
abbrev pub passes_from : ℕ → ℕ → ℕ → List (Option ℕ)
passes_from first computing count = map (λ k. if nat_lt k computing then Some (first + k) else None) (range_with_len 0 count)

-- what the last stage owes for the rows q that the first was fed: each is fed what the one before it owes
abbrev pub owed_by : Rules → ChannelModel → Chirality → List (Option ℕ) → List (List ℕ) → List (List ℕ)
owed_by gas channel chirality [] q = q
owed_by gas channel chirality (e ∷ es) q = owed_by gas channel chirality es (owed gas channel chirality e q)

-- what the last stage returned for them after so many stages were flushed: those returned all that they owe
abbrev pub given_by : Rules → ChannelModel → Chirality → ℕ → List (Option ℕ) → List (List ℕ) → List (List ℕ)
given_by gas channel chirality flushed [] q = q
given_by gas channel chirality zero (e ∷ es) q = given_by gas channel chirality zero es (given gas channel chirality e q)
given_by gas channel chirality (suc flushed) (e ∷ es) q = given_by gas channel chirality flushed es (owed gas channel chirality e q)

-- each stage may have come to its state by what the one before it returned, the first ones, which were flushed, by all rows of a lattice
abbrev pub MayEachHaveBeenFed : Rules → ChannelModel → Chirality → ℕ → List StageModel → List (Option ℕ) → List (List ℕ) → Type 0
MayEachHaveBeenFed gas channel chirality flushed [] [] q = Unit {0}
MayEachHaveBeenFed gas channel chirality zero (s ∷ stages) (e ∷ es) q =
    (s.channel ≡ channel) × (s.chirality ≡ chirality) × MayHaveBeenFed gas s e q
    × MayEachHaveBeenFed gas channel chirality zero stages es (given gas channel chirality e q)
MayEachHaveBeenFed gas channel chirality (suc flushed) (s ∷ stages) (e ∷ es) q =
    (s.channel ≡ channel) × (s.chirality ≡ chirality) × (s.pass ≡ None) × (length q ≡ channel.height)
    × MayEachHaveBeenFed gas channel chirality flushed stages es (owed gas channel chirality e q)
MayEachHaveBeenFed gas channel chirality flushed stages es q = ⊥

-- The stages may have come to their state by the rows q, in a pass in which they do what es says.
pub record MayAllHaveBeenFed (gas : Rules) (s : StagesModel) (es : List (Option ℕ)) (q : List (List ℕ)) : Type 0 where
  pub fed : s.fed ≡ length q
  pub each : MayEachHaveBeenFed gas s.channel s.chirality s.flushed s.stages es q
