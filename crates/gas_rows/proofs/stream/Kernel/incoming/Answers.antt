use Rattle.std.proofs.Common.{◌≡◌, ◌<◌, ◌+◌, ◌*◌, ◌/◌, ◌%◌, ℕ, arith, List, get_or, take, drop, length, ap, ap₂, ◌∙◌}
use Rattle.gas_geom.specs.declared.moves.Move.{Move}
use Rattle.gas_geom.specs.Moves.{column_after}
use Rattle.gas_geom.specs.Gas.{holds}
use Rattle.gas_geom.specs.Lattice.{streamed}
use Rattle.gas_geom.specs.Laws.Steps.{is_odd, column_after-lt}
use Rattle.gas_bits.specs.Words.{words_in, bit}
use Rattle.gas_bits.proofs.ShiftedBits.{streamed_bit}
use Rattle.gas_rows.specs.Planes.{cells_of}
use Rattle.gas_rows.specs.Beside.{is_solid_beside}
use Rattle.gas_rows.specs.Inner.Beside.{row_beside}
use Rattle.gas_rows.proofs.Streaming.{streamed_there, plane-state, beside-cells, beside-length, beside-solid}
use Rattle.gas_rows.proofs.stream.Kernel.incoming.Goals as goal

pub returns-clause-streamed : goal.returns-clause-streamed
returns-clause-streamed g c = λ ch at about x h.
    let gas = g.G.Gas.rules in
    let q = c.args.self.now.rows in
    let width : ℕ = q.width in
    let n : ℕ = words_in width in
    let i : ℕ = c.args.i in
    let y : ℕ = q.y in
    let direction = c.requires.direction in
    let parity = c.args.self.now.parity in
    let m : Move × Move = gas.step (gas.opposite i) (is_odd y) in
    let u : ℕ = column_after width x m.0 in
    let in_row : x < width = omega (arith, h, about.wide) in
    let opposite : c.opposite-opposite.result ≡ gas.opposite i = c.opposite-opposite.ensures.value in
    let each : c.words_for-words_each.result ≡ n = c.words_for-words_each.ensures.value in
    let step = ap₂ gas.step opposite parity in
    let along = c.moves-along.ensures.along ∙ ap (λ (s : Move × Move). s.0) step in
    let across = c.moves-along.ensures.down ∙ ap (λ (s : Move × Move). s.1) step in
    let from : List ℕ = row_beside m.1 q.above.now q.middle.now q.below.now in
    let u_in : u < width = column_after-lt width x m.0 in_row in
    let from_is : c.row_beside-from.result.now ≡ from = c.row_beside-from.ensures.row ∙ ap (λ a. row_beside a q.above.now q.middle.now q.below.now) across in
    let long : length from ≡ gas.dirs * n = beside-length (gas.dirs * n) m.1 q.above.now q.middle.now q.below.now c.requires.rows.above c.requires.rows.middle c.requires.rows.below in
    let coming : c.plane.result.now ≡ take n (drop (i * n) from) =
    c.plane.ensures.part ∙ ap₂ (λ j (ws : List ℕ). take j (drop (i * j) ws)) each from_is in
    let opposite_is : c.plane-opposite_here.result.now ≡ take n (drop (gas.opposite i * n) q.middle.now) =
    c.plane-opposite_here.ensures.part ∙ ap₂ (λ j o. take j (drop (o * j) q.middle.now)) each opposite in
    ap (λ (a : Move). streamed_bit (bit c.plane.result.now (column_after width x a)) (bit c.row_beside-solid_there.result.now (column_after width x a)) (bit c.plane-opposite_here.result.now x) (bit q.solid_middle.now x)) along
    ∙ streamed_there gas ch at x y i (cells_of gas.dirs width q.above.now) (cells_of gas.dirs width q.middle.now) (cells_of gas.dirs width q.below.now) _ _ _ _ direction h about.rows
    (ap (λ ws. bit ws u) coming ∙ plane-state from gas.dirs width i u long direction u_in
    ∙ ap (λ (r : List ℕ). holds (get_or r u 0) i) (beside-cells gas.dirs width m.1 q.above.now q.middle.now q.below.now)
    ∙ ap (λ w. holds (get_or (row_beside m.1 (cells_of gas.dirs width q.above.now) (cells_of gas.dirs width q.middle.now) (cells_of gas.dirs width q.below.now)) (column_after w x m.0) 0) i) about.wide)
    (ap (λ ws. bit ws u) (c.row_beside-solid_there.ensures.row ∙ ap (λ a. row_beside a q.solid_above.now q.solid_middle.now q.solid_below.now) across)
    ∙ beside-solid gas.dirs ch at q m.1 u about (omega (arith, u_in, about.wide)) ∙ ap (λ w. is_solid_beside ch (column_after w x m.0) y m.1) about.wide)
    (λ fluid. ap (λ ws. bit ws x) opposite_is
    ∙ plane-state q.middle.now gas.dirs width (gas.opposite i) x c.requires.rows.middle (g.met.G.Gas.laws.opposite_within i direction) in_row
    ∙ ap (λ s. holds s (gas.opposite i)) (about.rows.mid_is x h fluid))
    (about.solid_middle x h)
