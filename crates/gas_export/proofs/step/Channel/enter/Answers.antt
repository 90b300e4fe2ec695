use Rattle.std.proofs.Common.{◌≡◌, ◌<◌, ℕ, ◌+◌, ◌-◌, ◌/◌, Bool, List, if◌then◌else◌, true, false, ap, sym, subst, ◌∙◌, arith}
use Rattle.gas_geom.specs.Channel.{ChannelModel}
use Rattle.gas_bits.specs.Words.{words_in, bit}
use Rattle.gas_bits.specs.Planes.{state}
use Rattle.gas_layout.specs.Layout.{channel_of}
use Rattle.gas_layout.proofs.Grids.{value-rows_of}
use Rattle.gas_export.specs.Planes.{solid_at, state_at}
use Rattle.gas_export.specs.Inner.{passed}
use Rattle.gas_export.proofs.Beside.{rows-about}
use Rattle.gas_export.proofs.step.Channel.enter.Goals as goal

pub returns-then-streams-clause-passed : goal.returns-then-streams-clause-passed
returns-then-streams-clause-passed g c = λ at same x in_row.
    let gas = g.G.Gas.rules in
    let w : ℕ = c.args.self.now.size.width in
    let h : ℕ = c.args.self.now.size.height in
    let y : ℕ = c.args.y in
    let solid : List ℕ = c.args.self.now.solid.now in
    let states : List ℕ = c.args.states.now in
    let up : c.saturating_sub.result ≡ y - 1 = omega arith in
    subst (λ q. state c.stream_row.new.out (words_in w) gas.dirs x ≡ passed gas (channel_of w h (solid_at w solid)) (λ u v. bit c.args.bits.now u) q true at x y) (sym c.if-streams.true)
    (c.stream_row.ensures.passed at (rows-about gas.dirs w h y c.saturating_sub.result y c.min.result solid states _ _ _ at
    c.states_at-above.ensures.part c.states_at-middle.ensures.part c.states_at-below.ensures.part
    (λ some u u_in. ap (state_at gas.dirs w states u) up ∙ same u (y - 1) u_in (omega (arith, c.requires.row)) (omega arith) (omega (arith, some)))
    (λ u u_in. same u y u_in c.requires.row (omega arith) (omega arith))
    (λ more u u_in. ap (state_at gas.dirs w states u) (let down : c.min.result ≡ y + 1 = omega (arith, more, c.height-rows.ensures.value) in down) ∙ same u (y + 1) u_in more (omega arith) (omega arith))) x in_row)

pub returns-else-streams-clause-passed : goal.returns-else-streams-clause-passed
returns-else-streams-clause-passed g c = λ at same x in_row.
    let gas = g.G.Gas.rules in
    let w : ℕ = c.args.self.now.size.width in
    let h : ℕ = c.args.self.now.size.height in
    let y : ℕ = c.args.y in
    let solid : List ℕ = c.args.self.now.solid.now in
    let bits : List ℕ = c.args.bits.now in
    let here : List ℕ = c.solid_at.result.now in
    subst (λ q. state c.collide_into.new.out (words_in w) gas.dirs x ≡ passed gas (channel_of w h (solid_at w solid)) (λ u v. bit bits u) q true at x y) (sym c.if-streams.false)
    (subst (λ (v : ℕ). x / 64 < v → state c.collide_into.new.out v gas.dirs x ≡ (if bit here x then 0 else gas.collide (state c.states_at-middle.result.now v gas.dirs x) (bit bits x)))
    c.words_each.ensures.value (c.collide_into.ensures.collided x) (omega (arith, in_row))
    ∙ ap (λ (t : ℕ). if bit here x then 0 else gas.collide t (bit bits x))
    (ap (λ ws. state ws (words_in w) gas.dirs x) c.states_at-middle.ensures.part ∙ same x y in_row c.requires.row (omega arith) (omega arith))
    ∙ ap (λ (b : Bool). if b then 0 else gas.collide (at x y) (bit bits x))
    (ap (λ ws. bit ws x) c.solid_at.ensures.part ∙ sym (value-rows_of w h (solid_at w solid) x y false in_row c.requires.row)))
