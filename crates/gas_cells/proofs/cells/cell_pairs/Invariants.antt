use Rattle.std.proofs.Common.{◌≡◌, ◌*◌, length, slice_index, take}
use Rattle.std.specs.List.{flat_map, range_with_len}
use Rattle.gas_geom.specs.Gas.{holds}
use Rattle.gas_cells.specs.Cells.{cell_text}
use Rattle.gas_cells.proofs.cells.cell_pairs.Given as goal

-- the pairs so far are the cells' characters
abbrev pub invariant-loop-b : goal.invariant-loop-b
invariant-loop-b l = record {
  long : length l.pairs ≡ 128;
  written : take (2 * l.b) l.pairs ≡ flat_map (λ b. cell_text (holds l.solid b) (slice_index l.states b)) (range_with_len 0 l.b);
}
