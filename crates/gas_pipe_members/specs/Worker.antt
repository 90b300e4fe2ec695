-- A worker: what it owes and what it has done in its open pass.
use Rattle.std.specs.Prelude.{◌≡◌, ◌≢◌, ℕ, ◌<◌, ◌≤◌, ◌++◌, ◌∷◌, [], Bool, true, false, Option, None, List, length}
use Rattle.std.specs.Option.{option_to_list}
use Rattle.gas_geom.specs.Gas.{Rules}
use Rattle.gas_stage.specs.Stages.{StagesModel, MayAllHaveBeenFed, owed_by, given_by}
use Rattle.gas_rows.specs.Row.{RowModel}
use Rattle.gas_pipe_members.specs.declared.ends.Turned.{Turned}
use Rattle.gas_pipe_members.specs.declared.ends.Turned.TheVariants.{Took, Put, Idle, Done, Stray}

-- a worker as its callers see it: its stages, the row that it must put next, and whether a row of another width came
pub record WorkerModel : Type 0 where
  pub stages : StagesModel
  pub waiting : Option RowModel
  pub stray : Bool

-- it has as many stages, and computes for the same channel and by the same chirality
pub record SameWorker (old new : WorkerModel) : Type 0 where
  pub channel : new.stages.channel ≡ old.stages.channel
  pub chirality : new.stages.chirality ≡ old.stages.chirality
  pub count : length new.stages.stages ≡ length old.stages.stages

-- no pass is open: all stages are flushed, and no row is left to put
pub record IsClosed (w : WorkerModel) : Type 0 where
  pub stages : w.stages.flushed ≡ length w.stages.stages
  pub waiting : w.waiting ≡ None

-- What a worker owes for the rows that it took, in a pass in which its stages do what es says: each computes the step from a generation or,
-- with None, passes rows on. With one stage it is what the stage owes.
abbrev pub owes : Rules → WorkerModel → List (Option ℕ) → List RowModel → List RowModel
owes gas w es took = owed_by gas w.stages.channel w.stages.chirality es took

-- The worker may have come to its state in the pass es by taking the rows `took` and putting the rows `gave`. Its stages were fed the rows
-- that were taken, and what they returned for them was put, but for the row that waits. Once they are all flushed, they returned all that
-- is owed. A new pass fits two empty lists, so a promise for all lists that a worker fits is one for the lists of its open pass.
pub record MayHaveDone (gas : Rules) (w : WorkerModel) (es : List (Option ℕ)) (took gave : List RowModel) : Type 0 where
  pub no_stray : w.stray ≡ false
  pub few : length took ≤ w.stages.channel.height
  pub fed : MayAllHaveBeenFed gas w.stages es took
  pub took_all : w.stages.flushed ≡ length w.stages.stages → length took ≡ w.stages.channel.height
  pub put_returned : gave ++ option_to_list w.waiting ≡ given_by gas w.stages.channel w.stages.chirality w.stages.flushed es took

-- by a step from one state to another the list of the rows that the worker took becomes `takes` of it, and that of the rows put `puts` of it
abbrev pub Does : Rules → WorkerModel → (List RowModel → List RowModel) → (List RowModel → List RowModel) → WorkerModel → Type 0
Does gas old takes puts new =
    (es : List (Option ℕ)) (took gave : List RowModel) → MayHaveDone gas old es took gave → MayHaveDone gas new es (takes took) (puts gave)

-- all rows were taken, and all that is owed for them was put
abbrev pub HasDoneAll : Rules → WorkerModel → Type 0
HasDoneAll gas w =
    (es : List (Option ℕ)) (took gave : List RowModel) → MayHaveDone gas w es took gave → (length took ≡ w.stages.channel.height) × (gave ≡ owes gas w es took)

-- rows are still to come, and all that is owed for those that were taken was put
abbrev pub HasMoreToTake : Rules → WorkerModel → Type 0
HasMoreToTake gas w =
    (es : List (Option ℕ)) (took gave : List RowModel) → MayHaveDone gas w es took gave → (length took < w.stages.channel.height) × (gave ≡ owes gas w es took)

-- What a turn did that leads from one state to another, and why it did no more. Of an end it knows which rows a step takes or puts, that no
-- step was made, and that a try succeeds. With a put goes the spare row that the end handed out, which went to the other end.
abbrev pub WorkerTurned :
    Rules → WorkerModel → WorkerModel → (RowModel → Type 0) → Type 0 → Type 0 → (RowModel → Option RowModel → Type 0) → Type 0 → Type 0 → Turned → Type 0
WorkerTurned gas old new takes no_take can_take puts no_put can_put Took =
    (row : RowModel) × takes row × no_put × Does gas old (λ l. l ++ row ∷ []) (λ l. l) new × HasMoreToTake gas old
WorkerTurned gas old new takes no_take can_take puts no_put can_put Put =
    (row : RowModel) × Does gas old (λ l. l) (λ l. l ++ row ∷ []) new × (length row ≡ old.stages.channel.width)
    × (spare : Option RowModel) × puts row spare
WorkerTurned gas old new takes no_take can_take puts no_put can_put Idle =
    no_take × no_put × Does gas old (λ l. l) (λ l. l) new × ((es : List (Option ℕ)) (took gave : List RowModel) → MayHaveDone gas old es took gave →
    (length gave < length (owes gas old es took) → can_put → ⊥) × (gave ≡ owes gas old es took → can_take → ⊥))
WorkerTurned gas old new takes no_take can_take puts no_put can_put Done = no_take × no_put × Does gas old (λ l. l) (λ l. l) new × IsClosed new × HasDoneAll gas old
WorkerTurned gas old new takes no_take can_take puts no_put can_put Stray =
    (new.stray ≡ true) × HasMoreToTake gas old × (old.stray ≡ true → no_take × no_put × (new ≡ old))
    × (old.stray ≡ false → (row : RowModel) × takes row × no_put × (length row ≢ old.stages.channel.width))
