use Rattle.std.proofs.Common.{inl, refl, ap, sym, ◌∙◌, arith}
use Rattle.std.proofs.lemmas.Int.{ints}
use Rattle.gas_geom.specs.Size.{SizeModel}
use Rattle.gas_layout.specs.Layout.{drawn}
use Rattle.gas_scene.specs.Inner.Models.{table_model}
use Rattle.gas_scene.proofs.Areas.{area_refusal-tests}
use Rattle.gas_scene.proofs.scene_table.SceneTable.draw_area.Goals as goal

pub returns-then-not-are_rectangles-clause-refused : goal.returns-then-not-are_rectangles-clause-refused
returns-then-not-are_rectangles-clause-refused c =
    let t = c.args.self.now in
    let s = c.in-Some.size in
    inl (area_refusal-tests c.args.most c.args.states t s (drawn s.width s.height (table_model t).solid) c.in-Some.ensures.within c.in-Some.ensures.made refl
    ∙ rw (sym c.are_rectangles.ensures ∙ c.if-not-are_rectangles.true) refl)

pub returns-then-not-are_placements-clause-refused : goal.returns-then-not-are_placements-clause-refused
returns-then-not-are_placements-clause-refused c =
    inl (area_refusal-tests c.args.most c.args.states c.args.self.now c.in-Some.size c.in_ok-channel.channel c.in-Some.ensures.within c.in-Some.ensures.made c.in_ok-channel.ensures
    ∙ rw (sym c.are_rectangles.ensures ∙ c.if-not-are_rectangles.false, sym c.are_placements.ensures ∙ c.if-not-are_placements.true) refl)

pub returns-clause-accepted : goal.returns-clause-accepted
returns-clause-accepted c =
    area_refusal-tests c.args.most c.args.states c.args.self.now c.in-Some.size c.in_ok-channel.channel c.in-Some.ensures.within c.in-Some.ensures.made c.in_ok-channel.ensures
    ∙ rw (sym c.are_rectangles.ensures ∙ c.if-not-are_rectangles.false, sym c.are_placements.ensures ∙ c.if-not-are_placements.false) refl

pub returns-clause-drawn : goal.returns-clause-drawn
returns-clause-drawn c = record {
  size = grind (arith, ints, c.requires, c.in-Some.ensures.within);
  channel = c.in_ok-channel.ensures ∙ ap (λ (s : SizeModel). drawn s.width s.height (table_model c.args.self.now).solid) c.in-Some.ensures.made;
  can = sym c.are_placements.ensures ∙ c.if-not-are_placements.false;
  rate = grind (arith, ints, c.in-Some.ensures.within);
  few = grind (arith, ints, c.in-Some.ensures.within);
}
