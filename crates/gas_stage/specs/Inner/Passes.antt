-- Inner words: what functions of this crate promise one another. No public contract cites them.
-- Here: what a stage does in a pass, and the rows that pass between stages.
use Rattle.std.specs.Prelude.{◌≡◌, ℕ, ◌<◌, ◌++◌, Bool, false, if◌then◌else◌, Option, Some, None, option_map, List, [], ◌∷◌, length, slice_index, slice_index_or}
use Rattle.std.specs.Option.{option_to_list}
use Rattle.gas_geom.specs.Gas.{Rules}
use Rattle.gas_geom.specs.Channel.{ChannelModel, is_solid}
use Rattle.gas_geom.specs.Lattice.{row_of}
use Rattle.gas_rows.specs.Chirality.{chirality_bit}
use Rattle.gas_rows.specs.declared.chirality.Chirality.{Chirality}
use Rattle.gas_stage.specs.declared.stage.Mode.{Mode}
use Rattle.gas_stage.specs.declared.stage.Mode.TheVariants.{Closed, HandsOn, Computes}

-- the open pass of a stage, as its callers see it
abbrev pub open_pass : Mode → Option (Option ℕ)
open_pass Closed = None
open_pass HandsOn = Some None
open_pass (Computes g) = Some (Some g)

-- bits by which the gas collides as by those of row y in the step from generation g
abbrev pub AreBitsOf : Rules → Chirality → ℕ → ℕ → ℕ → List Bool → Type 0
AreBitsOf gas chirality width g y bits = (s x : ℕ) → x < width →
    gas.collide s (slice_index_or bits x false) ≡ gas.collide s (chirality_bit chirality width g x y)

-- row y as a stage keeps it: after the collision of its step if it computes
abbrev pub kept : Rules → ChannelModel → Chirality → Option ℕ → ℕ → List ℕ → List ℕ
kept gas channel chirality None y row = row
kept gas channel chirality (Some g) y row =
    row_of channel.width (λ x. if is_solid channel x y then 0 else gas.collide (slice_index row x) (chirality_bit chirality channel.width g x y))

-- what the first of stages does, and nothing behind the last
abbrev pub first_does : List (Option ℕ) → Option ℕ
first_does [] = None
first_does (e ∷ es) = e

-- A stage that had given some rows, and now has given others, returned the row that is new, if there is one, as the stage behind it keeps it.
pub record Returned (gas : Rules) (channel : ChannelModel) (chirality : Chirality) (behind : Option ℕ) (before after : List (List ℕ)) (result : Option (List ℕ)) : Type 0 where
  pub row : Option (List ℕ)
  pub more : after ≡ before ++ option_to_list row
  pub is : result ≡ option_map (kept gas channel chirality behind (length before)) row
