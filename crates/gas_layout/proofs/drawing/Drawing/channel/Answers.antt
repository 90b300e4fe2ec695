use Rattle.std.proofs.Common.{◌≡◌, ℕ, ◌+◌, ◌<◌, ◌||◌, Bool, List, length, set, subst, sym, ◌∙◌, ap, ap₂, arith}
use Rattle.std.specs.Prelude.{All}
use Rattle.std.specs.List.{list_any}
use Rattle.std.proofs.lemmas.List.{with_items_is}
use Rattle.gas_geom.specs.Channel.{ChannelModel}
use Rattle.gas_layout.specs.declared.drawing.Strip.{Strip}
use Rattle.gas_layout.specs.Inner.Steps.{channel_before}
use Rattle.gas_layout.specs.Inner.Strips.{passes, is_reached, is_drawn, strips_of, reaches, IsStrip, IsSkyline}
use Rattle.gas_layout.proofs.Steps.{channel_before-none, channel_before-next, channel_before-all}
use Rattle.gas_layout.proofs.Strips.{strips-row, is_reached-next}
use Rattle.gas_layout.proofs.drawing.Drawing.channel.Goals as goal

pub loop-y-init : goal.loop-y-init
loop-y-init c = record {
  sized = subst (λ n. IsSkyline n c.in_ok-skyline.skyline) c.width-width.ensures.value c.in_ok-skyline.ensures.sized;
  wide = sym c.in_ok-solid.solid.ok.0 ∙ c.in_ok-solid.ensures.len ∙ c.width-width.ensures.value;
  reached = c.in_ok-skyline.ensures.cells;
  cells = c.in_ok-channel.ensures.value ∙ channel_before-none c.self.inside.size.width c.self.inside.size.height (is_drawn (strips_of c.self.inside.rows.items));
}

pub extend_all-requires-clause-columns : goal.extend_all-requires-clause-columns
extend_all-requires-clause-columns c =
    let rows = c.self.inside.rows.items in
    let y = c.loop-y.y in
    let within : y < length rows = omega (arith, c.loop-y-test.true, c.height-y-end.ensures.value, c.self.invariant.high) in
    let row = c.as_slice.ensures.value ∙ strips-row rows y c.index.result.now within c.index.ensures in
    subst (λ n. All (λ s. IsStrip n s) c.as_slice.result.now) (sym c.loop-y.invariant.sized.columns)
    (subst (λ ss. All (λ s. IsStrip c.self.inside.size.width s) ss) (sym row) (c.self.invariant.strips y))

pub loop-y-preserved : goal.loop-y-preserved
loop-y-preserved c =
    let rows = c.self.inside.rows.items in
    let width : ℕ = c.self.inside.size.width in
    let y = c.loop-y.y in
    let within : y < length rows = omega (arith, c.loop-y-test.true, c.height-y-end.ensures.value, c.self.invariant.high) in
    let row = c.as_slice.ensures.value ∙ strips-row rows y c.index.result.now within c.index.ensures in
    let marked = with_items_is c.loop-y.solid c.mark.new.solid (c.mark.auto.solid ∙ c.as_mut_slice.ensures.len) in
    let long : length c.as_mut_slice.result.now ≡ width = ap length c.as_mut_slice.ensures.value ∙ c.loop-y.invariant.wide in
    let reached : (x v : ℕ) → passes c.extend_all.new.self x v ≡ is_reached (strips_of rows) (y + 1) x v =
    λ x v.
    c.extend_all.ensures.cells x v
    ∙ ap₂ (λ (b : Bool) (ss : List Strip). b || list_any (λ s. reaches s x v) ss) (c.loop-y.invariant.reached x v) row
    ∙ sym (is_reached-next (strips_of rows) y x v) in
    record {
      sized = subst (λ n. IsSkyline n c.extend_all.new.self) c.loop-y.invariant.sized.columns c.extend_all.ensures.sized;
      wide = ap length marked ∙ c.mark.auto.solid ∙ long;
      reached = reached;
      cells = c.set_row.ensures.written
          ∙ ap₂ (λ (ch : ChannelModel) (s : List Bool). record ch { solid = set ch.solid y s }) c.loop-y.invariant.cells (c.as_slice-in-loop-y.ensures.value ∙ marked)
          ∙ channel_before-next width c.self.inside.size.height (is_drawn (strips_of rows)) y c.mark.new.solid
          (omega (arith, within, c.self.invariant.high)) (c.mark.auto.solid ∙ long)
          (λ x inside. c.mark.ensures x (omega (arith, inside, long)) ∙ reached x y);
    }

pub returns : goal.returns
returns c = record {
  drawn =
      let width = c.self.inside.size.width in
      let height = c.self.inside.size.height in
      let cells = is_drawn (strips_of c.self.inside.rows.items) in
      let end : c.loop-y.y ≡ height = omega (arith, c.loop-y-test.false, c.loop-y.auto.y-end, c.height-y-end.ensures.value) in
      c.loop-y.invariant.cells ∙ ap (channel_before width height cells) end ∙ channel_before-all width height cells ∙ c.self.view_is;
}
