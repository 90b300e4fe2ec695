use Rattle.std.proofs.Common.{◌≡◌, ◌<◌, ◌+◌, ◌*◌, ◌/◌, ◌%◌, ℕ, arith, ap, ◌∙◌}
use Rattle.gas_geom.specs.Gas.{holds}
use Rattle.gas_geom.specs.Lattice.{streamed}
use Rattle.gas_rows.proofs.stream.Kernel.stream_four.Goals as goal

pub returns : goal.returns
returns g c = λ ch at about direction cell few inside.
    let q = c.args.self.now.rows in
    let x : ℕ = 64 * (c.args.j + cell / 64) + cell % 64 in
    let x_is : x ≡ 64 * c.args.j + cell = omega arith in
    let h : x < ch.width = omega (arith, inside, x_is) in
    c.stream_four.ensures.streamed (cell / 64) (cell % 64) (omega (arith, few)) (omega arith) (omega (arith, h, about.wide, c.incoming-along.ensures.wide))
    ∙ c.incoming-along.ensures.streamed ch at about x h
    ∙ ap (λ z. holds (streamed g.G.Gas.rules ch at z q.y) c.args.i) x_is
