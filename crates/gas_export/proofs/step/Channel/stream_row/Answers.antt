use Rattle.std.proofs.Common.{◌≡◌, ◌<◌, ℕ, ◌+◌, ◌-◌, List, ap, subst, ◌∙◌, arith}
use Rattle.gas_geom.specs.Channel.{ChannelModel}
use Rattle.gas_bits.specs.Words.{words_in, bit}
use Rattle.gas_bits.specs.Planes.{state}
use Rattle.gas_rows.specs.Streaming.{advanced}
use Rattle.gas_layout.specs.Layout.{channel_of}
use Rattle.gas_export.specs.Planes.{row_words, solid_at}
use Rattle.gas_export.proofs.Beside.{words-about}
use Rattle.gas_export.proofs.step.Channel.stream_row.Goals as goal

pub returns-clause-passed : goal.returns-clause-passed
returns-clause-passed g c = λ at about x in_row.
    let gas = g.G.Gas.rules in
    let w : ℕ = c.args.self.now.size.width in
    let h : ℕ = c.args.self.now.size.height in
    let y : ℕ = c.args.y in
    let solid : List ℕ = c.args.self.now.solid.now in
    let bits : List ℕ = c.args.bits.now in
    let ch : ChannelModel = channel_of w h (solid_at w solid) in
    let width : c.width-width.result ≡ w = c.width-width.ensures.value in
    subst (λ (v : ℕ). state c.advance.new.out (words_in v) gas.dirs x ≡ advanced gas ch c.args.collides (λ u v. bit bits u) at x y) width
    (c.advance.ensures.advanced ch at (words-about gas.dirs w h solid c.args.self.now.wall.now at _ width c.requires.row c.args.self.now.all_wall
    (λ some. c.row_or_wall.ensures.part (omega (arith, some, c.requires.row)) ∙ ap (row_words (words_in w) solid) (omega (arith, some, c.width-width.ensures.within)))
    (λ top. c.row_or_wall.ensures.past (omega (arith, top, c.width-width.ensures.within)))
    c.solid_at.ensures.part
    (λ more. c.row_or_wall-2.ensures.part more)
    (λ end. c.row_or_wall-2.ensures.past (omega (arith, end)))
    about) x in_row)
