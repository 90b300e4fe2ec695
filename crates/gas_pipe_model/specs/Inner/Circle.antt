-- Inner words: what proofs say of workers in a circle. No public contract cites them.
-- Workers in a circle, as lists only: H rows make a lattice, and a worker owes `owe n q` for its rows q in pass n.
use Rattle.std.specs.Prelude.{◌≡◌, ℕ, zero, suc, ◌*◌, List, [], ◌++◌, length, take, drop}
use Rattle.gas_geom.specs.Gas.{Rules}
use Rattle.gas_rows.specs.Row.{RowModel}
use Rattle.gas_stage.specs.Stages.{owed_by}
use Rattle.gas_pipe_model.specs.Pass.{RunInputModel, generations_of}

-- the n-th H rows of a list
abbrev pub block : {A : Type 0} → ℕ → ℕ → List A → List A
block H n q = take H (drop (n * H) q)

-- what a worker owes in the first n passes for the rows q
unfoldable pub owed_in : {A : Type 0} → ℕ → (ℕ → List A → List A) → ℕ → List A → List A
owed_in H owe zero q = []
owed_in H owe (suc n) q = owed_in H owe n q ++ owe n (block H n q)

-- what is on belt k, if the rows b are on belt 0 and worker k + 1 puts in these passes what it owes, `owe k`
unfoldable pub on_belt : {A : Type 0} → ℕ → (ℕ → ℕ → List A → List A) → ℕ → List A → ℕ → List A
on_belt H owe passes b zero = b
on_belt H owe passes b (suc k) = owed_in H (owe k) passes (on_belt H owe passes b k)

-- the rows of the first n passes, one pass after another
unfoldable pub joined : {A : Type 0} → (ℕ → List A) → ℕ → List A
joined rows zero = []
joined rows (suc n) = joined rows n ++ rows n

-- What makes it a circle of N workers, if `rows n k` goes over belt k in pass n: all are of H rows, each worker leads from one belt to the
-- next, and a pass begins with what came back from the pass before. `back` leaves those rows as they are.
pub record IsCircle {A : Type 0} (H N : ℕ) (owe : ℕ → ℕ → List A → List A) (back : List A → List A) (rows : ℕ → ℕ → List A) : Type 0 where
  pub whole : (k n : ℕ) (q : List A) → length q ≡ H → length (owe k n q) ≡ H
  pub high : (n k : ℕ) → length (rows n k) ≡ H
  pub on : (n k : ℕ) → owe k n (rows n k) ≡ rows n (suc k)
  pub again : (n : ℕ) → rows (suc n) 0 ≡ rows n N
  pub front : (m : ℕ) (q : List A) → take m (back q) ≡ back (take m q)
  pub kept : (n : ℕ) → back (joined (λ i. rows i N) n) ≡ joined (λ i. rows i N) n

-- what worker k + 1 owes in pass n of the input's plan for the rows q
abbrev pub owes_in : Rules → RunInputModel → ℕ → ℕ → List RowModel → List RowModel
owes_in gas input k n q = owed_by gas input.lattice.channel input.chirality (generations_of input.first input.plan n (suc k)) q
