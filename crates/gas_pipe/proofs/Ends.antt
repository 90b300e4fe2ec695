-- What steps of the ends of belts do to their lists.
use Rattle.std.proofs.Common.{◌≡◌, ◌+◌, ◌-◌, ◌++◌, ◌∷◌, [], length, min, List, Option, Some, None, ap, subst, ◌∙◌}
use Rattle.gas_rows.specs.Row.{RowModel}
use Rattle.gas_belt.specs.Belt.{Sender, Receiver}
use Rattle.gas_pipe_members.specs.Ends.{MayGet, Sends, Takes}

abbrev pub one_more : RowModel → List RowModel → List RowModel
one_more row l = l ++ row ∷ []

abbrev pub takes : Receiver → RowModel → Receiver → Type 0
takes old row new = (new ≡ record old { taken = old.taken ++ row ∷ []; held = old.held - 1 }) × (length row ≡ old.belt.width)

abbrev pub gets : Receiver → RowModel → Receiver → Type 0
gets old row new = (new ≡ record old { held = new.held }) × (length row ≡ old.belt.width → new.held ≡ min old.most (old.held + 1))

abbrev pub puts : Sender → RowModel → Sender → Type 0
puts old row new = (new ≡ record old { put = old.put ++ row ∷ []; spare = Some row }) × (length row ≡ old.belt.width)

abbrev pub lends : Sender → Option RowModel → Sender → Type 0
lends old spare new = (spare ≡ old.spare) × (new ≡ record old { spare = None })

-- it was given the spare row of a put
pub got_spare : (a b : Receiver) (x y : Sender) (row : RowModel) (spare : Option RowModel) → Sends puts lends x row spare y → MayGet gets a spare b → gets a row b
got_spare a b x y row spare step got =
    subst (λ (o : Option RowModel). MayGet gets a o b) (step.lent.0 ∙ ap (λ (t : Sender). t.spare) step.put.0) got

-- an end that may have been given a row
got : (a b : Receiver) (spare : Option RowModel) → MayGet gets a spare b → (b.taken ≡ a.taken) × (b.belt ≡ a.belt)
got a b None is = (ap (λ (r : Receiver). r.taken) is, ap (λ (r : Receiver). r.belt) is)
got a b (Some row) is = (ap (λ (r : Receiver). r.taken) is.0, ap (λ (r : Receiver). r.belt) is.0)

-- a row was taken
pub took : (a b : Receiver) (row : RowModel) (spare : Option RowModel) → Takes takes gets a row spare b → (b.taken ≡ one_more row a.taken) × (b.belt ≡ a.belt) × (length row ≡ a.belt.width)
took a b row spare step =
    let more = got step.between b spare step.got in (
      more.0 ∙ ap (λ (r : Receiver). r.taken) step.took.0,
      more.1 ∙ ap (λ (r : Receiver). r.belt) step.took.0,
      step.took.1,
    )

-- a row was put
pub sent : (a b : Sender) (row : RowModel) (spare : Option RowModel) → Sends puts lends a row spare b → (b.put ≡ one_more row a.put) × (b.belt ≡ a.belt)
sent a b row spare step = (
  ap (λ (t : Sender). t.put) step.lent.1 ∙ ap (λ (t : Sender). t.put) step.put.0,
  ap (λ (t : Sender). t.belt) step.lent.1 ∙ ap (λ (t : Sender). t.belt) step.put.0,
)
