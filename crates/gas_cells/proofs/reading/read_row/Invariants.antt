use Rattle.std.proofs.Common.{◌≡◌, ℕ, ◌<◌, false, get_or, is_none}
use Rattle.std.specs.List.{find, range_with_len}
use Rattle.gas_cells.specs.Reading.{cell_at, cell_or_empty}
use Rattle.gas_cells.proofs.reading.read_row.Given as goal

-- the cells so far are read
abbrev pub invariant-loop-x : goal.invariant-loop-x
invariant-loop-x l = record {
  solid : (k : ℕ) → k < l.x → get_or l.solid k false ≡ (cell_or_empty l.states l.row k).solid;
  states : (k : ℕ) → k < l.x → get_or l.state_of k 0 ≡ (cell_or_empty l.states l.row k).state;
  all : l.are_cells ≡ is_none (find (λ c. is_none (cell_at l.states l.row c)) (range_with_len 0 l.x));
}
