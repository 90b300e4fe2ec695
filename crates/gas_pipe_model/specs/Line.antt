-- A line of workers and one feeder, defined only by the histories of its belts. The feeder is member 0 and puts rows on belt 0; worker k
-- takes from belt k - 1 and puts on belt k; the feeder takes from the last belt.
use Rattle.std.specs.Prelude.{◌≡◌, ℕ, zero, suc, ◌+◌, ◌≤◌, Bool, ◌&&◌, ◌||◌, not, ◌==◌, nat_lt, if◌then◌else◌, List, [], ◌∷◌, ◌++◌, length, take, drop}
use Rattle.std.specs.List.{Contains}
use Rattle.gas_rows.specs.Row.{RowModel}

-- The feeder's rows, what worker k owes for the rows that it took, the number of workers, and the capacity of a belt in rows.
pub record Line : Type 0 where
  pub rows : List RowModel
  pub owe : ℕ → List RowModel → List RowModel
  pub workers : ℕ
  pub capacity : ℕ

-- the rows put on each belt so far, and those taken from it
pub record State : Type 0 where
  pub put : ℕ → List RowModel
  pub taken : ℕ → List RowModel

-- at the start all belts are unused
abbrev pub start : State
start = record { put = λ _. []; taken = λ _. [] }

-- what is owed on belt k: all the feeder's rows, or what worker k owes for the rows that it took
abbrev pub owed_on : Line → State → ℕ → List RowModel
owed_on l s zero = l.rows
owed_on l s (suc k) = l.owe (suc k) (s.taken k)

-- the put on belt k is open if fewer rows were put than are owed, and the belt is not full
unfoldable pub put_open : Line → State → ℕ → Bool
put_open l s k = nat_lt (length (s.put k)) (length (owed_on l s k)) && nat_lt (length (s.put k)) (length (s.taken k) + l.capacity)

-- the take from belt k is open if a row is on the belt and, unless it is the last belt, the worker after it has put all that it owes
unfoldable pub take_open : Line → State → ℕ → Bool
take_open l s k =
    nat_lt (length (s.taken k)) (length (s.put k)) && (k == l.workers || length (s.put (suc k)) == length (owed_on l s (suc k)))

-- the belt that member m takes from
abbrev pub source : Line → ℕ → ℕ
source l zero = l.workers
source l (suc k) = k

-- the histories f with one more row on belt k: the row that comes next in `rows`
unfoldable pub grown : (ℕ → List RowModel) → ℕ → List RowModel → ℕ → List RowModel
grown f k rows j = if j == k then f k ++ take 1 (drop (length (f k)) rows) else f j

-- A turn of member m: if its put is open, the next row owed on its belt is put; else, if its take is open, the next row put on the belt
-- that it takes from is taken; else nothing happens. A number above the workers' names no member.
unfoldable pub turn : Line → State → ℕ → State
turn l s m =
    if nat_lt l.workers m then s
    else (if put_open l s m then record s { put = grown s.put m (owed_on l s m) }
    else (if take_open l s (source l m) then record s { taken = grown s.taken (source l m) (s.put (source l m)) } else s))

-- whether that turn is an event, a put or a take
unfoldable pub moves : Line → State → ℕ → Bool
moves l s m = not (nat_lt l.workers m) && (put_open l s m || take_open l s (source l m))

-- the histories after these turns
abbrev pub after_turns : Line → List ℕ → State → State
after_turns l [] s = s
after_turns l (m ∷ ms) s = after_turns l ms (turn l s m)

-- how many of these turns are events
abbrev pub events : Line → List ℕ → State → ℕ
events l [] s = 0
events l (m ∷ ms) s = (if moves l s m then 1 else 0) + events l ms (turn l s m)

-- the line is done if all rows were put on the first belt and taken from the last
unfoldable pub is_done : Line → State → Bool
is_done l s = (length (s.put 0) == length l.rows) && (length (s.taken l.workers) == length l.rows)

-- the turns can be cut into n rounds, each with a turn of every member
abbrev pub HasRounds : ℕ → ℕ → List ℕ → Type 0
HasRounds workers zero turns = Unit {0}
HasRounds workers (suc n) turns =
    (round : List ℕ) × ((rest : List ℕ) × ((round ++ rest ≡ turns) × (((m : ℕ) → m ≤ workers → Contains round m) × HasRounds workers n rest)))
