use Rattle.std.proofs.Common.{◌≡◌, ◌≤◌, ◌*◌, ◌<◌, ◌^◌, ℕ, get_or}
use Rattle.std.specs.Prelude.{count_ones}
use Rattle.gas_geom.proofs.Sums.{sum_below}
use Rattle.gas_rows.proofs.row.Row.count.Given as goal

abbrev pub invariant-loop-word : goal.invariant-loop-word
invariant-loop-word g l = record {
  so_far : l.total ≡ sum_below l.word-index (λ k. count_ones (get_or l.word-items k 0));
  fits : (k : ℕ) → get_or l.word-items k 0 < 2 ^ 64;
  bounded : l.total ≤ 64 * l.word-index;
}
