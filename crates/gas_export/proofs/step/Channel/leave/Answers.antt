use Rattle.std.proofs.Common.{◌≡◌, ◌<◌, ℕ, ◌+◌, ◌-◌, ◌*◌, ◌%◌, Bool, List, true, false, ap, sym, subst, ◌∙◌, arith}
use borrow.Rule.Slice.PartMut.{put_mid}
use Rattle.gas_geom.specs.Channel.{ChannelModel}
use Rattle.gas_bits.specs.Words.{words_in, bit}
use Rattle.gas_bits.specs.Planes.{state}
use Rattle.gas_layout.specs.Layout.{channel_of}
use Rattle.gas_export.specs.Planes.{solid_at, state_at}
use Rattle.gas_export.specs.Inner.{passed, bit_of}
use Rattle.gas_export.proofs.Beside.{rows-about}
use Rattle.gas_export.proofs.Passes.{passed-bits}
use Rattle.gas_export.proofs.Written.{row-within, row-put}
use Rattle.gas_export.proofs.step.Channel.leave.Goals.{then-collides, else-collides}
use Rattle.gas_export.proofs.step.Channel.leave.Goals as goal

pub slice_bounds-out-end : goal.slice_bounds-out-end
slice_bounds-out-end g c =
    let dirs : ℕ = g.G.Gas.rules.dirs in
    let w : ℕ = c.args.self.now.size.width in
    let y : ℕ = c.args.y - 1 in
    let many : c.row_length-n.result ≡ dirs * words_in w = c.row_length-n.ensures.value in
    omega (arith, c.requires.states, many, ap (λ (k : ℕ). y * k) many, row-within (dirs * words_in w) c.args.self.now.size.height y (omega (arith, c.if-y-eq0.false, c.requires.row)))

pub returns-clause-here : goal.returns-clause-here
returns-clause-here g c = λ at same x k in_row e.
    let gas = g.G.Gas.rules in
    let w : ℕ = c.args.self.now.size.width in
    let h : ℕ = c.args.self.now.size.height in
    let y : ℕ = c.args.y - 1 in
    let n : ℕ = c.row_length-n.result in
    let solid : List ℕ = c.args.self.now.solid.now in
    let kept : List ℕ = c.args.kept.now in
    let ch : ChannelModel = channel_of w h (solid_at w solid) in
    let f : ℕ → ℕ → Bool = bit_of c.args.source w c.args.generation in
    let new : List ℕ = c.stream_row.new.out in
    let in_rows : y < h = omega (arith, e, c.requires.row) in
    let last : y ≡ k = omega (arith, e) in
    subst (λ (j : ℕ). state_at gas.dirs w (put_mid (y * n) (y * n + n - y * n) c.args.states.now new) x j ≡ passed gas ch f true c.args.collides at x j) last
    (ap (λ ws. state ws (words_in w) gas.dirs x) (row-put 0 n (gas.dirs * words_in w) h y c.args.states.now new c.row_length-n.ensures.value c.requires.states c.stream_row.ensures.long in_rows).here
    ∙ c.stream_row.ensures.passed at (rows-about gas.dirs w h y ((y + 2) % 3) (y % 3) ((y + 1) % 3) solid kept _ _ _ at
    c.states_at-above.ensures.part c.states_at-middle.ensures.part c.states_at-below.ensures.part
    (λ some u u_in. ap (state_at gas.dirs w kept u) (let up : (y + 2) % 3 ≡ (y - 1) % 3 = omega (arith, some) in up)
    ∙ same u (y - 1) (omega (arith, e)) (omega (arith, some, e)) (omega (arith, in_rows)) u_in)
    (λ u u_in. same u y (omega (arith, e)) (omega (arith, e)) in_rows u_in)
    (λ more u u_in. same u (y + 1) (omega (arith, e)) (omega (arith, e)) more u_in)) x in_row
    ∙ passed-bits gas ch (λ u v. bit c.if-collides.bits u) f true c.args.collides at x y (λ yes s. elim c.if-collides.branch [
      | then-collides w ↦ subst (λ (bits : List ℕ). gas.collide s (bit bits x) ≡ gas.collide s (f x y)) (sym w.bits-is) (w.draw_row.ensures.collisions s x in_row)
      | else-collides w ↦ absurd (let no : c.args.collides ≡ false = w.if-collides.false in cc (yes, no))
    ]))

pub returns-clause-others : goal.returns-clause-others
returns-clause-others g c = λ k k_in ne.
    (row-put 0 c.row_length-n.result (g.G.Gas.rules.dirs * words_in c.args.self.now.size.width) c.args.self.now.size.height (c.args.y - 1) c.args.states.now c.stream_row.new.out
    c.row_length-n.ensures.value c.requires.states c.stream_row.ensures.long (omega (arith, c.if-y-eq0.false, c.requires.row))).others k k_in (λ e. absurd (omega (arith, e, ne, c.if-y-eq0.false)))
