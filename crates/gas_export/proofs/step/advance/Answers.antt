use Rattle.std.proofs.Common.{◌≡◌, ◌+◌, ◌≤◌, ◌<◌, ℕ, Bool, List, ap, sym, ◌∙◌, arith}
use Rattle.gas_geom.specs.Lattice.{cell, rows_of}
use Rattle.gas_layout.specs.Layout.{channel_of}
use Rattle.gas_layout.proofs.Grids.{rows_of-same, value-rows_of}
use Rattle.gas_export.specs.Planes.{solid_at, state_at}
use Rattle.gas_export.specs.Inner.{bit_of}
use Rattle.gas_export.proofs.Passes.{after, after-made, held, next_hit, next_hit-is, next_hit-lt, not_hit, not_last, one_sweep}
use Rattle.gas_export.proofs.step.advance.Goals as goal

pub loop-done-init : goal.loop-done-init
loop-done-init g c = record {
  near = record {
    long = c.generator-far.ensures.ready.long;
    seeded = c.generator-near.ensures.ready.seeded;
    left = c.generator-far.ensures.ready.left;
    right = c.generator-far.ensures.ready.right;
  };
  far = c.generator-far.ensures.ready;
  few = omega arith;
  more = λ e. absurd (cc e);
  rows = λ x y in_row in_rows. sym (value-rows_of c.args.size.width c.args.size.height (state_at g.G.Gas.rules.dirs c.args.size.width c.args.states.now) x y 0 in_row in_rows);
}

pub loop-done-preserved : goal.loop-done-preserved
loop-done-preserved g c =
    let gas = g.G.Gas.rules in
    let w : ℕ = c.args.size.width in
    let h : ℕ = c.args.size.height in
    let solid : List ℕ = c.args.solid.now in
    let f : ℕ → ℕ → ℕ → Bool = bit_of c.args.source w in
    let rows : List (List ℕ) = rows_of w h (state_at gas.dirs w c.args.states.now) in
    let n : ℕ = c.loop-done.done in
    let hit : Bool = c.loop-done.collided in
    let is : n + c.from.result ≡ next_hit n hit = ap (λ (k : ℕ). n + k) c.from.ensures ∙ next_hit-is n hit in
    let below : next_hit n hit < c.args.generations = next_hit-lt n c.args.generations hit c.loop-done-test.true c.loop-done.invariant.more in
    record {
      near = c.sweep.ensures.near;
      far = c.sweep.ensures.far;
      few = omega (arith, is, below);
      more = λ far. not_last (n + c.from.result) c.args.generations far;
      rows = one_sweep gas w h solid f c.args.first rows n (n + c.from.result) hit _ (state_at gas.dirs w c.sweep.new.states) is
          (λ between mid. c.sweep.ensures.swept (held gas w h solid f c.args.first rows n hit) between c.loop-done.invariant.rows mid);
    }

pub returns : goal.returns
returns g c =
    let gas = g.G.Gas.rules in
    let w : ℕ = c.args.size.width in
    let h : ℕ = c.args.size.height in
    let solid : List ℕ = c.args.solid.now in
    let f : ℕ → ℕ → ℕ → Bool = bit_of c.args.source w in
    let rows : List (List ℕ) = rows_of w h (state_at gas.dirs w c.args.states.now) in
    let n : ℕ = c.loop-done.done in
    let end : c.args.generations ≤ n = c.loop-done-test.false in
    let all : n ≡ c.args.generations = omega (arith, end, c.loop-done.invariant.few) in
    record {
      done = ap (λ rs. record { channel = channel_of w h (solid_at w solid); rows = rs })
          (rows_of-same w h (state_at gas.dirs w c.loop-done.states) (cell (after gas w h solid f c.args.first rows c.args.generations)) 0
          (λ x y in_row in_rows. c.loop-done.invariant.rows x y in_row in_rows
          ∙ ap (λ hit. held gas w h solid f c.args.first rows n hit x y) (not_hit n c.args.generations c.loop-done.collided end c.loop-done.invariant.more)
          ∙ ap (λ k. cell (after gas w h solid f c.args.first rows k) x y) all)
          ∙ after-made gas w h solid f c.args.first c.args.generations (state_at gas.dirs w c.args.states.now));
    }
