use Rattle.std.proofs.Common.{◌≡◌, None, is_none}
use Rattle.std.specs.List.{find, range_with_len}
use Rattle.gas_cells.specs.Reading.{cell_at}
use Rattle.gas_cells.proofs.reading.bad_column.Given as goal

abbrev pub invariant-loop-c : goal.invariant-loop-c
invariant-loop-c l = find (λ c. is_none (cell_at l.states l.row c)) (range_with_len 0 l.c) ≡ None
