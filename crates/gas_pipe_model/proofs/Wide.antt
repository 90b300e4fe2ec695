-- Every row that is under way in a pass has the channel's width.
use Rattle.std.proofs.Common.{◌≡◌, ℕ, ◌+◌, ◌*◌, ◌≤◌, ◌<◌, min, List, [], ◌∷◌, ◌++◌, length, get_or, ap, sym, ◌∙◌, arith, length-append, append_assoc}
use Rattle.std.proofs.Math.Seq.{get_or-append_seam}
use Rattle.gas_geom.specs.Gas.{Rules, IsGas}
use Rattle.gas_geom.specs.Lattice.{IsLattice}
use Rattle.gas_rows.specs.Chirality.{chirality_bit}
use Rattle.gas_geom.proofs.Runs.{IsLattice-generation}
use Rattle.gas_rows.specs.Row.{RowModel}
use Rattle.gas_pipe_model.specs.Line.{State}
use Rattle.gas_pipe_model.specs.Plan.{before}
use Rattle.gas_pipe_model.specs.Pass.{RunInputModel, IsRunInput, line_of, rows_on}
use Rattle.gas_pipe_model.proofs.Turns.{Fits, put_carried}
use Rattle.gas_pipe_model.proofs.Generations.{pass_is_line, carries}

pub after_is_lattice : (gas : Rules) (input : RunInputModel) → IsGas gas → IsRunInput gas input → (n k : ℕ) → IsLattice gas input.lattice.channel (rows_on gas input n k)
after_is_lattice gas input laws is n k =
    IsLattice-generation gas laws input.lattice.channel (chirality_bit input.chirality input.lattice.channel.width) input.first input.lattice.rows is.lattice (min (n * input.plan.stages + before input.plan k) input.plan.generations)

row_is_wide : (gas : Rules) (input : RunInputModel) → IsGas gas → IsRunInput gas input → (n k : ℕ) (xs : List RowModel) (row : RowModel) (ys : List RowModel) → xs ++ row ∷ ys ≡ rows_on gas input n k →
    length row ≡ input.lattice.channel.width
row_is_wide gas input laws is n k xs row ys e =
    let lattice = after_is_lattice gas input laws is n k in
    let high = lattice.high in
    let low : length xs < input.lattice.channel.height = omega (arith, length-append xs (row ∷ ys), ap length e) in
    let there : get_or (rows_on gas input n k) (length xs) [] ≡ row =
    ap (λ (v : List RowModel). get_or v (length xs) []) (sym e) ∙ get_or-append_seam xs row ys [] in
    ap length (sym there) ∙ lattice.wide (length xs) low

-- a row on belt k in pass n
pub under_way_is_wide : (gas : Rules) (input : RunInputModel) → IsGas gas → IsRunInput gas input → (n : ℕ) (s : State) → Fits (line_of gas input n) s → (k : ℕ) → k ≤ input.plan.threads →
    (row : RowModel) (rest : List RowModel) → s.taken k ++ row ∷ rest ≡ s.put k → length row ≡ input.lattice.channel.width
under_way_is_wide gas input laws is n s fits k h row rest e =
    let pre = put_carried (line_of gas input n) (pass_is_line gas input is n) s fits k h in
    let all : s.taken k ++ row ∷ (rest ++ pre.0) ≡ rows_on gas input n k =
    sym (append_assoc (s.taken k) (row ∷ rest) pre.0) ∙ ap (λ u. u ++ pre.0) e ∙ pre.1 ∙ carries gas input is n k in
    row_is_wide gas input laws is n k (s.taken k) row (rest ++ pre.0) all
