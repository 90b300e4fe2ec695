-- The ends of belts: what a put with its spare row does, and a take after which a row is given for reuse.
use Rattle.std.specs.Prelude.{◌≡◌, Option, None, Some}

-- the end was given that row for reuse, if there is one
abbrev pub MayGet : {End Row : Type 0} → (End → Row → End → Type 0) → End → Option Row → End → Type 0
MayGet gets old None new = new ≡ old
MayGet gets old (Some spare) new = gets old spare new

-- the row was put, and then the end handed out that spare row for reuse, or none
pub record Sends {End Row : Type 0} (puts : End → Row → End → Type 0) (lends : End → Option Row → End → Type 0) (old : End) (row : Row) (spare : Option Row) (new : End) : Type 0 where
  pub between : End
  pub put : puts old row between
  pub lent : lends between spare new

-- the row was taken, and then the end was given that row for reuse, if there is one
pub record Takes {End Row : Type 0} (takes : End → Row → End → Type 0) (gets : End → Row → End → Type 0) (old : End) (row : Row) (spare : Option Row) (new : End) : Type 0 where
  pub between : End
  pub took : takes old row between
  pub got : MayGet gets between spare new
