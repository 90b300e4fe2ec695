-- What steps of the ends of belts on one thread do: no spare row goes from one to another.
use Rattle.std.proofs.Common.{◌≡◌, ◌<◌, [], ◌∷◌, ◌++◌, length, ap, sym, ◌∙◌, Option, Some, None}
use Rattle.gas_rows.specs.Row.{RowModel}
use Rattle.gas_pipe_members.specs.Belt.{BeltModel}
use Rattle.gas_pipe_members.specs.Ends.{MayGet, Sends, Takes}

abbrev pub PlainGets : BeltModel → Option RowModel → BeltModel → Type 0
PlainGets = MayGet (λ old row new. new ≡ old)

abbrev pub PlainSends : BeltModel → RowModel → Option RowModel → BeltModel → Type 0
PlainSends = Sends (λ old row new. (length old.rows < old.capacity) × (new ≡ record old { rows = old.rows ++ row ∷ [] }))
    (λ old spare new. (spare ≡ None) × (new ≡ old))

abbrev pub PlainTakes : BeltModel → RowModel → Option RowModel → BeltModel → Type 0
PlainTakes = Takes (λ old row new. old ≡ record new { rows = row ∷ new.rows }) (λ old row new. new ≡ old)

pub got : (old : BeltModel) (spare : Option RowModel) (new : BeltModel) → PlainGets old spare new → new ≡ old
got old None new is = is
got old (Some row) new is = is

pub sent : (old : BeltModel) (row : RowModel) (spare : Option RowModel) (new : BeltModel) → PlainSends old row spare new →
    (length old.rows < old.capacity) × (new ≡ record old { rows = old.rows ++ row ∷ [] })
sent old row spare new is = (is.put.0, is.lent.1 ∙ is.put.1)

pub taken : (old : BeltModel) (row : RowModel) (spare : Option RowModel) (new : BeltModel) → PlainTakes old row spare new → old ≡ record new { rows = row ∷ new.rows }
taken old row spare new is = is.took ∙ ap (λ (b : BeltModel). record b { rows = row ∷ b.rows }) (sym (got is.between spare new is.got))
