use Rattle.std.proofs.Common.{◌≡◌, [], length}
use Rattle.std.specs.Prelude.{All}
use Rattle.gas_layout.proofs.drawing.Drawing.new.Given as goal

abbrev pub invariant-loop : goal.invariant-loop
invariant-loop l = record {
  high : length l.rows.items ≡ l.counter;
  empty : All (λ v. v.items ≡ []) l.rows.items;
}
