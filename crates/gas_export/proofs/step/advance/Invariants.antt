use Rattle.std.proofs.Common.{◌≡◌, ◌≤◌, ◌<◌, ◌+◌, ◌-◌, ℕ, true}
use Rattle.gas_geom.specs.Lattice.{rows_of}
use Rattle.gas_export.specs.Planes.{state_at}
use Rattle.gas_export.specs.Inner.{bit_of, IsReady}
use Rattle.gas_export.proofs.Passes.{held}
use Rattle.gas_export.proofs.step.advance.Given as goal

abbrev pub invariant-loop-done : goal.invariant-loop-done
invariant-loop-done g l = record {
  near : IsReady l.fn.source.chirality l.near.key l.fn.size.width l.bits;
  far : IsReady l.fn.source.chirality l.far.key l.fn.size.width l.bits;
  few : l.done ≤ l.generations;
  more : l.collided ≡ true → l.done + 1 < l.generations;
  rows : (x y : ℕ) → x < l.fn.size.width → y < l.fn.size.height → state_at g.G.Gas.rules.dirs l.fn.size.width l.states x y
      ≡ held g.G.Gas.rules l.fn.size.width l.fn.size.height l.solid (bit_of l.fn.source l.fn.size.width) l.first
      (rows_of l.fn.size.width l.fn.size.height (state_at g.G.Gas.rules.dirs l.fn.size.width l.initial.states)) l.done l.collided x y;
}

abbrev pub decreases-loop-done : goal.decreases-loop-done
decreases-loop-done g l = l.generations - l.done
