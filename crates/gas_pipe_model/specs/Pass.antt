-- The passes of a plan over a lattice: the line of each, and what the belts carry in it and in all of them.
use Rattle.std.specs.Prelude.{ℕ, ◌+◌, ◌-◌, ◌*◌, ◌<◌, ◌==◌, nat_lt, min, if◌then◌else◌, Option, Some, None, List, [], map, flat_map}
use Rattle.std.specs.Int.{div_ceil}
use Rattle.std.specs.List.{range_with_len}
use Rattle.gas_geom.specs.Gas.{Rules}
use Rattle.gas_geom.specs.Lattice.{LatticeModel, IsLattice}
use Rattle.gas_rows.specs.Row.{RowModel}
use Rattle.gas_rows.specs.declared.chirality.Chirality.{Chirality}
use Rattle.gas_stage.specs.Evolution.{lattice_after}
use Rattle.gas_stage.specs.Stages.{owed_by}
use Rattle.gas_pipe_model.specs.Line.{Line, State, start, after_turns}
use Rattle.gas_pipe_model.specs.Plan.{PlanModel, before}

-- the input of a run: a lattice of generation `first`, its chirality, and the plan to carry out
pub record RunInputModel : Type 0 where
  pub chirality : Chirality
  pub first : ℕ
  pub lattice : LatticeModel
  pub plan : PlanModel

-- what the laws of a pass require of it: its rows make a lattice, it has a worker, and a belt has room for a row
pub record IsRunInput (gas : Rules) (input : RunInputModel) : Type 0 where
  pub lattice : IsLattice gas input.lattice.channel input.lattice.rows
  pub workers : 0 < input.plan.threads
  pub room : 0 < input.plan.capacity

-- The generation that stage k, counted from 1, computes the step from in pass n, counted from 0, of a plan over a lattice of generation
-- `first`. As many stages compute as generations are left; the stages after them hand rows on.
abbrev pub computes_from : ℕ → PlanModel → ℕ → ℕ → Option ℕ
computes_from first plan n k =
    let before : ℕ = n * plan.stages + k - 1 in
    if nat_lt before plan.generations then Some (first + before) else None

-- what the stages of worker k, counted from 1, compute from: they are those between the belts before and behind it
abbrev pub generations_of : ℕ → PlanModel → ℕ → ℕ → List (Option ℕ)
generations_of first plan n k =
    map (computes_from first plan n) (range_with_len (before plan (k - 1) + 1) (before plan k - before plan (k - 1)))

-- what belt k carries in pass n, both counted from 0: the rows of the lattice as many generations on as stages are in front of it, and of
-- the last generation at most
abbrev pub rows_on : Rules → RunInputModel → ℕ → ℕ → List RowModel
rows_on gas input n k =
    (lattice_after gas input.chirality input.first input.lattice (min (n * input.plan.stages + before input.plan k) input.plan.generations)).rows

-- the line of pass n: the feeder has the rows of the first belt, and each worker owes what its stages do, one behind another
abbrev pub line_of : Rules → RunInputModel → ℕ → Line
line_of gas input n = record {
  rows = rows_on gas input n 0;
  owe = λ k. owed_by gas input.lattice.channel input.chirality (generations_of input.first input.plan n k);
  workers = input.plan.threads;
  capacity = input.plan.capacity;
}

-- the histories of pass n after these turns
abbrev pub after : Rules → RunInputModel → ℕ → List ℕ → State
after gas input n turns = after_turns (line_of gas input n) turns start

-- what belt k carries in the first n passes: the rows of each pass, one pass after another
abbrev pub carried_on : Rules → RunInputModel → ℕ → ℕ → List RowModel
carried_on gas input n k = flat_map (λ i. rows_on gas input i k) (range_with_len 0 n)

-- what the belts of a run carry, from belt 0, in all passes, as many as the generations divided by the stages, rounded up; without a
-- generation to compute there is no belt
abbrev pub carried_by_belts : Rules → RunInputModel → List (List RowModel)
carried_by_belts gas input =
    if input.plan.generations == 0 then []
    else map (carried_on gas input (div_ceil input.plan.generations input.plan.stages)) (range_with_len 0 (input.plan.threads + 1))
