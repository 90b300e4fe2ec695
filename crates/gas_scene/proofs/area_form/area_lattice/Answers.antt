use Rattle.std.proofs.Common.{◌≡◌, ℕ, Bool, pos, nat_abs, ap, ◌∙◌}
use Rattle.gas_geom.specs.Lattice.{LatticeModel}
use Rattle.gas_layout.specs.Layout.{is_covered, channel_of}
use Rattle.gas_scene.specs.Inner.Models.{table_model}
use Rattle.gas_scene.proofs.Areas.{area_lattice-is}
use Rattle.gas_scene.proofs.area_form.area_lattice.Goals as goal

pub returns : goal.returns
returns g c =
    let gas = g.G.Gas.rules in
    let t = table_model c.args.table.now in
    let w = nat_abs t.width in
    let h = nat_abs t.height in
    let solid : ℕ → ℕ → Bool = λ x y. is_covered t.solid (pos x) (pos y) in
    let made : c.in_ok-lattice.lattice.channel ≡ channel_of w h solid =
    ap (λ (l : LatticeModel). l.channel) c.in_ok-lattice.ensures.value ∙ c.requires.drawn.channel in
    c.place_all.ensures w h solid _ (c.in_ok-fill.ensures.cells w h solid made)
    ∙ area_lattice-is gas c.args.seed _ t c.requires.seed c.requires.drawn.rate
