use Rattle.std.proofs.Common.{◌≡◌, ◌++◌, [], ◌∷◌, map, take, ap, ◌∙◌, subst}
use Rattle.std.specs.Prelude.{IfOk}
use Rattle.std.proofs.lemmas.List.{take_all}
use Rattle.toml.specs.View.{view}
use Rattle.gas_geom.specs.Channel.{ChannelModel}
use Rattle.gas_layout.specs.declared.area.Rectangle.{Rectangle}
use Rattle.gas_layout.specs.Layout.{fits, drawn}
use Rattle.gas_scene.specs.Table.{rectangle_of}
use Rattle.gas_scene.proofs.Areas.{read_more, passes_at}
use Rattle.gas_scene.proofs.area_form.draw.Goals as goal

pub loop-value-init : goal.loop-value-init
loop-value-init c = c.in_ok-drawing.ensures.blank

pub add-requires : goal.add-requires
add-requires c = record {
  fits =
      let w = c.args.size.width in
      let h = c.args.size.height in
      ap (λ (d : ChannelModel). fits d.width d.height c.rectangle.result) c.loop-value.invariant
      ∙ ap (fits w h) c.rectangle.ensures
      ∙ passes_at (λ v. fits w h (rectangle_of (view v))) c.args.solid.now c.loop-value.value-index c.value-item.result c.requires c.loop-value-test.true c.value-item.is;
}

pub loop-value-preserved : goal.loop-value-preserved
loop-value-preserved c =
    let w = c.args.size.width in
    let h = c.args.size.height in
    let vs = c.args.solid.now in
    let k = c.loop-value.value-index in
    c.in_ok-add.ensures.added w h (map rectangle_of (map view (take k vs))) c.loop-value.invariant
    ∙ ap (λ (r : Rectangle). drawn w h (map rectangle_of (map view (take k vs)) ++ r ∷ [])) c.rectangle.ensures
    ∙ ap (drawn w h) (read_more rectangle_of vs k c.value-item.result c.loop-value-test.true c.value-item.is)

pub returns : goal.returns
returns c =
    let w = c.args.size.width in
    let h = c.args.size.height in
    subst (λ (a : ChannelModel). IfOk c.channel.result (λ k. k ≡ a))
    (c.loop-value.invariant ∙ ap (λ vs. drawn w h (map rectangle_of (map view vs))) (take_all c.loop-value.value-index c.args.solid.now c.loop-value-test.false))
    c.channel.ensures.drawn
