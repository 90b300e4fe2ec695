use Rattle.std.proofs.Common.{◌≡◌, ◌+◌, ◌-◌, ◌*◌, ap, ap₂, ◌∙◌, sym, arith}
use Rattle.gas_geom.proofs.Sets.{set_from}
use Rattle.gas_bits.specs.Planes.{has, state, four_has}
use Rattle.gas_bits.proofs.Cells.{state-lt, holds-state}
use Rattle.gas_bits.proofs.Scatters.{lane-bit}
use Rattle.gas_rows.proofs.collision.Collision.collided.Goals as goal

pub returns : goal.returns
returns g c = λ y from to inside.
    let gas = g.G.Gas.rules in
    let q = c.args.self.now in
    let words = c.args.words.now in
    let cell = y - 64 * c.args.j in
    let place : 64 * c.args.j + cell ≡ y = omega (arith, from) in
    c.collide_planes.ensures.cells cell (omega (arith, to, from))
    ∙ ap₂ gas.collide
    (set_from gas.dirs (state words q.words_each gas.dirs y) (λ i. four_has c.four_planes_at-planes.result i cell) (state-lt words q.words_each gas.dirs y) (λ i hi.
    c.four_planes_at-planes.ensures.planes i cell (omega (arith, hi, c.directions.ensures.value)) (omega (arith, to, from)) (omega (arith, place, inside))
    ∙ ap (has words q.words_each i) place ∙ sym (holds-state words q.words_each gas.dirs y i hi)))
    (lane-bit c.four_at.result q.chi.now c.args.j y from c.four_at.ensures.words to)
