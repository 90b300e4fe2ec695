-- A stage: what it owes for the rows that it is fed.
use Rattle.std.specs.Prelude.{◌≡◌, ℕ, ◌-◌, ◌≤◌, ◌==◌, if◌then◌else◌, Option, Some, None, List, length, take, IfSome}
use Rattle.gas_geom.specs.Gas.{Rules}
use Rattle.gas_geom.specs.Channel.{ChannelModel}
use Rattle.gas_geom.specs.Lattice.{cell, row_of, collided, next}
use Rattle.gas_rows.specs.Chirality.{chirality_bit}
use Rattle.gas_rows.specs.declared.chirality.Chirality.{Chirality}

-- A stage as its callers see it. The open pass, if there is one, is the generation from which it computes the step, or None if it
-- hands rows on.
pub record StageModel : Type 0 where
  pub channel : ChannelModel
  pub chirality : Chirality
  pub pass : Option (Option ℕ)
  -- how many rows were fed in the open pass
  pub fed : ℕ
  -- the last two of them, collided, in a pass that computes
  pub before_last : List ℕ
  pub last : List ℕ

-- What a stage returned for the rows q before the flush. In a pass that hands rows on, q itself. In one that computes the step from
-- generation g, rows of the next lattice, one fewer than q, because the last row of q lacks the one below it. Rows that have not come
-- count as empty.
abbrev pub given : Rules → ChannelModel → Chirality → Option ℕ → List (List ℕ) → List (List ℕ)
given gas channel chirality None q = q
given gas channel chirality (Some g) q = take (length q - 1) (next gas channel (chirality_bit chirality channel.width g) q)

-- what it owes for them: the same, but all rows of the next lattice if q has all rows
abbrev pub owed : Rules → ChannelModel → Chirality → Option ℕ → List (List ℕ) → List (List ℕ)
owed gas channel chirality None q = q
owed gas channel chirality (Some g) q =
    if length q == channel.height then next gas channel (chirality_bit chirality channel.width g) q
    else given gas channel chirality (Some g) q

-- of the rows q, a stage that computes the step from generation g holds the last two, collided
pub record HoldsLast (gas : Rules) (s : StageModel) (g : ℕ) (q : List (List ℕ)) : Type 0 where
  pub before_last : 2 ≤ length q →
      s.before_last ≡ row_of s.channel.width (λ x. collided gas s.channel (chirality_bit s.chirality s.channel.width g) (cell q) x (length q - 2))
  pub last : 1 ≤ length q →
      s.last ≡ row_of s.channel.width (λ x. collided gas s.channel (chirality_bit s.chirality s.channel.width g) (cell q) x (length q - 1))

-- The stage may have come to its state by the rows q, in the open pass p: it may have been fed no row when its pass opens, and one
-- more after every feed. A promise for every list that it may have been fed is one for the rows that it was fed.
pub record MayHaveBeenFed (gas : Rules) (s : StageModel) (p : Option ℕ) (q : List (List ℕ)) : Type 0 where
  pub pass : s.pass ≡ Some p
  pub fed : s.fed ≡ length q
  pub held : IfSome p (λ g. HoldsLast gas s g q)
