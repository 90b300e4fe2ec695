use Rattle.std.proofs.Common.{◌≡◌, ℕ, Bool, length}
use Rattle.gas_layout.specs.Inner.Steps.{filled_before}
use Rattle.gas_layout.proofs.filling.fill.Given as goal

abbrev pub invariant-loop-y : goal.invariant-loop-y
invariant-loop-y g l = record {
  channel : l.lattice.channel ≡ l.initial.lattice.channel;
  wide : length l.states.items ≡ l.width;
  as_wide : length l.words.items ≡ l.width;
  cells : (w h : ℕ) (solid : ℕ → ℕ → Bool) → l.initial.lattice ≡ filled_before g.G.Gas.rules l.seed l.rate w h solid 0
      → l.lattice ≡ filled_before g.G.Gas.rules l.seed l.rate w h solid l.y;
}
