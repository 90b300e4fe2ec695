use Rattle.std.proofs.Common.{◌≡◌, ◌<◌, ◌≤◌, ◌+◌, ◌*◌, ◌%◌, ℕ, Bool, ◌-◌, List, length, inl, inr, true, ap, sym, subst, ◌∙◌, arith}
use Rattle.std.proofs.lemmas.Bool.{cases_eq}
use borrow.Rule.Slice.PartMut.{put_mid}
use Rattle.gas_geom.specs.Channel.{ChannelModel}
use Rattle.gas_layout.specs.Layout.{channel_of}
use Rattle.gas_bits.specs.Words.{words_in, bit}
use Rattle.gas_bits.specs.Planes.{state}
use Rattle.gas_export.specs.Planes.{state_at, solid_at}
use Rattle.gas_export.specs.Inner.{bit_of, passed}
use Rattle.gas_export.proofs.Passes.{passed-bits}
use Rattle.gas_export.proofs.Written.{row-put}
use Rattle.gas_export.proofs.step.Channel.sweep.Goals as goal

pub leave-requires-clause-ready : goal.leave-requires-clause-ready
leave-requires-clause-ready g c = record {
  long = c.draw_row.ensures.ready.long;
  seeded = c.loop-y.invariant.far.seeded;
  left = c.draw_row.ensures.ready.left;
  right = c.draw_row.ensures.ready.right;
}

pub loop-y-preserved : goal.loop-y-preserved
loop-y-preserved g c =
    let gas = g.G.Gas.rules in
    let w : ℕ = c.args.self.now.size.width in
    let h : ℕ = c.args.self.now.size.height in
    let y : ℕ = c.loop-y.y in
    let n : ℕ = c.row_length-n.result in
    let m : ℕ = gas.dirs * words_in w in
    let ch : ChannelModel = channel_of w h (solid_at w c.args.self.now.solid.now) in
    let f : ℕ → ℕ → Bool = bit_of c.args.source w c.args.generation in
    let row : List ℕ = c.enter.new.out in
    let new : List ℕ = put_mid (y % 3 * n) (y % 3 * n + n - y % 3 * n) c.loop-y.kept row in
    let long : length c.loop-y.kept ≡ 3 * m = c.loop-y.auto.kept ∙ c.requires.kept in
    let put = row-put 0 n m 3 (y % 3) c.loop-y.kept row c.row_length-n.ensures.value long c.enter.ensures.long (omega arith) in
    let in_rows : y < h = omega (arith, c.loop-y-test.true, c.height-y-end.ensures.value) in
    let hit : (before : ℕ → ℕ → ℕ) → ((u k : ℕ) → u < w → k < h → state_at gas.dirs w c.args.states.now u k ≡ before u k)
    → (x k : ℕ) → x < w → k < y + 1 → y ≤ k + 2 → state_at gas.dirs w new x (k % 3) ≡ passed gas ch f c.args.collided true before x k =
    λ before same x k in_row below above. elim (cases_eq k y) [
      | inl e ↦ subst (λ j. state_at gas.dirs w new x (j % 3) ≡ passed gas ch f c.args.collided true before x j) (sym e)
          (ap (λ ws. state ws (words_in w) gas.dirs x) put.here
          ∙ c.enter.ensures.passed before
          (λ u j u_in j_in le ge. ap (λ ws. state ws (words_in w) gas.dirs u) (c.loop-y.invariant.fresh j ge j_in) ∙ same u j u_in j_in) x in_row
          ∙ passed-bits gas ch (λ u v. bit c.draw_row.new.bits u) f c.args.collided true before x y (λ _ s. c.draw_row.ensures.collisions s x in_row))
      | inr ne ↦ ap (λ ws. state ws (words_in w) gas.dirs x) (put.others (k % 3) (omega arith) (λ e. absurd (omega (arith, below, above, ne, e))))
          ∙ c.loop-y.invariant.hit before same x k in_row (omega (arith, below, ne)) above
    ] in
    record {
      fluid = c.fluid_to-next.ensures.fluid;
      near = record {
        long = c.leave.ensures.ready.long;
        seeded = c.draw_row.ensures.ready.seeded;
        left = c.leave.ensures.ready.left;
        right = c.leave.ensures.ready.right;
      };
      far = c.leave.ensures.ready;
      fresh = λ k le k_in. c.leave.ensures.others k k_in (λ e. absurd (omega (arith, le, e))) ∙ c.loop-y.invariant.fresh k (omega (arith, le)) k_in;
      hit = λ before same x k in_row below above. hit before same x k in_row below (omega (arith, above));
      gone = λ before between same mid x k in_row below. elim (cases_eq (k + 1) y) [
        | inl e ↦ c.leave.ensures.here between (λ u j le ge j_in u_in. hit before same u j u_in (omega (arith, le)) ge ∙ mid u j u_in j_in) x k in_row e
        | inr ne ↦ ap (λ ws. state ws (words_in w) gas.dirs x) (c.leave.ensures.others k (omega (arith, below, in_rows)) ne)
            ∙ c.loop-y.invariant.gone before between same mid x k in_row (omega (arith, below, ne))
      ];
    }

pub returns-clause-near : goal.returns-clause-near
returns-clause-near g c = record {
  long = c.leave-2.ensures.ready.long;
  seeded = c.loop-y.invariant.near.seeded;
  left = c.leave-2.ensures.ready.left;
  right = c.leave-2.ensures.ready.right;
}

pub returns-clause-swept : goal.returns-clause-swept
returns-clause-swept g c = λ before between same mid x y in_row in_rows.
    let gas = g.G.Gas.rules in
    let w : ℕ = c.args.self.now.size.width in
    let h : ℕ = c.args.self.now.size.height in
    let end : c.loop-y.y ≡ h = omega (arith, c.loop-y-test.false, c.loop-y.auto.y-end, c.height-y-end.ensures.value) in
    elim (cases_eq (y + 1) h) [
      | inl e ↦ c.leave-2.ensures.here between
          (λ u j le ge j_in u_in. c.loop-y.invariant.hit before same u j u_in (omega (arith, j_in, end)) (omega (arith, ge, end, c.height-bottom.ensures.value)) ∙ mid u j u_in j_in)
          x y in_row (omega (arith, e, c.height-bottom.ensures.value))
      | inr ne ↦ ap (λ ws. state ws (words_in w) gas.dirs x) (c.leave-2.ensures.others y in_rows (λ e. absurd (omega (arith, e, ne, c.height-bottom.ensures.value))))
          ∙ c.loop-y.invariant.gone before between same mid x y in_row (omega (arith, in_rows, ne, end))
    ]
