-- A feeder: its rows, and what it has done since it began.
use Rattle.std.specs.Prelude.{◌≡◌, ◌≢◌, ℕ, ◌+◌, ◌*◌, ◌%◌, ◌<◌, ◌≤◌, ◌++◌, Bool, true, false, if◌then◌else◌, Option, None, Some, List, [], ◌∷◌, length, slice_index}
use Rattle.gas_geom.specs.Channel.{ChannelModel, is_solid}
use Rattle.gas_geom.specs.Lattice.{row_of}
use Rattle.gas_rows.specs.Row.{RowModel}
use Rattle.gas_pipe_members.specs.declared.ends.Turned.{Turned}
use Rattle.gas_pipe_members.specs.declared.ends.Turned.TheVariants.{Took, Put, Idle, Done, Stray}

-- A feeder as its callers see it: its rows, the next to be put first; how many it is still to put and to take; which row of a lattice
-- comes next; and how many rows it keeps for reuse.
pub record FeederModel : Type 0 where
  pub channel : ChannelModel
  pub rows : List RowModel
  pub to_put : ℕ
  pub to_take : ℕ
  pub next : ℕ
  pub spares : ℕ
  -- whether a row of another width came
  pub stray : Bool

-- row y of a channel with its solid cells empty
abbrev pub emptied_row : ChannelModel → ℕ → RowModel → RowModel
emptied_row channel y row = row_of (length row) (λ x. if is_solid channel x y then 0 else slice_index row x)

-- the rows of one lattice after another with their solid cells empty; the first is row n, counted through all lattices
abbrev pub emptied_from : ChannelModel → ℕ → List RowModel → List RowModel
emptied_from channel n [] = []
emptied_from channel n (row ∷ rows) = emptied_row channel (n % channel.height) row ∷ emptied_from channel (n + 1) rows

-- The feeder may have come to its state, in `passes` passes from the rows `rows`, by putting the rows `gave` and taking the rows `took`:
-- what it put and still has is what it began with and took, solid cells emptied.
pub record MayHaveFed (f : FeederModel) (passes : ℕ) (rows gave took : List RowModel) : Type 0 where
  pub no_stray : f.stray ≡ false
  pub queue : gave ++ f.rows ≡ rows ++ emptied_from f.channel 0 took
  pub puts : length gave + f.to_put ≡ passes * f.channel.height
  pub takes : length took + f.to_take ≡ passes * f.channel.height
  pub behind : length took ≤ length gave
  pub next : f.next ≡ length took % f.channel.height

-- by a step from one state to another the list of the rows that the feeder put becomes `puts` of it, and that of the rows taken `takes` of it
abbrev pub Feeds : FeederModel → (List RowModel → List RowModel) → (List RowModel → List RowModel) → FeederModel → Type 0
Feeds old puts takes new =
    (passes : ℕ) (rows gave took : List RowModel) → MayHaveFed old passes rows gave took → MayHaveFed new passes rows (puts gave) (takes took)

-- where n rows were kept for reuse, m are once that row was added, if it has this width, or if there was none to add
abbrev pub Keeps : ℕ → ℕ → Option RowModel → ℕ → Type 0
Keeps width n None m = m ≡ n
Keeps width n (Some row) m = length row ≡ width → m ≡ n + 1

-- where n rows were kept for reuse, m are once that one of this width was given away, or none
abbrev pub Gives : ℕ → ℕ → Option RowModel → ℕ → Type 0
Gives width n None m = m ≡ n
Gives width n (Some row) m = (length row ≡ width) × (m + 1 ≡ n)

-- What a turn did that leads from one state to another, and why it did no more. Of an end it knows which rows a step puts or takes, that no
-- step was made, and that a try succeeds.
abbrev pub FeederTurned : FeederModel → FeederModel → (RowModel → Type 0) → Type 0 → Type 0 → (RowModel → Type 0) → Type 0 → Type 0 → Turned → Type 0
FeederTurned old new puts no_put can_put takes no_take can_take Put = (row : RowModel) × puts row × no_take × Feeds old (λ l. l ++ row ∷ []) (λ l. l) new
FeederTurned old new puts no_put can_put takes no_take can_take Took =
    (row : RowModel) × takes row × no_put × Feeds old (λ l. l) (λ l. l ++ row ∷ []) new × (old.to_put < old.to_take)
    × (0 < old.to_put → 0 < length old.rows → can_put → ⊥) × (0 < old.spares → new.spares < old.spares)
FeederTurned old new puts no_put can_put takes no_take can_take Idle =
    no_take × no_put × (new ≡ old) × (0 < old.to_put → 0 < length old.rows → can_put → ⊥) × (old.to_put < old.to_take → can_take → ⊥)
FeederTurned old new puts no_put can_put takes no_take can_take Done = no_take × no_put × (new ≡ old) × (old.to_take ≡ 0)
FeederTurned old new puts no_put can_put takes no_take can_take Stray =
    (new.stray ≡ true) × (old.stray ≡ true → no_take × no_put × (new ≡ old))
    × (old.stray ≡ false → (row : RowModel) × takes row × no_put × (length row ≢ old.channel.width))
