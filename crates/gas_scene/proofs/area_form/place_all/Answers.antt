use Rattle.std.proofs.Common.{ℕ, ◌+◌, ◌++◌, [], ◌∷◌, List, map, take, ap, ◌∙◌, refl}
use Rattle.std.proofs.lemmas.List.{take_all}
use Rattle.toml.specs.View.{view}
use Rattle.gas_layout.specs.declared.area.Placement.{Placement}
use Rattle.gas_layout.specs.Layout.{lattice_of, placed}
use Rattle.gas_layout.proofs.Grids.{lattice_of-same}
use Rattle.gas_scene.specs.Table.{placement_of}
use Rattle.gas_scene.proofs.Areas.{read_more, placed-more}
use Rattle.gas_scene.proofs.area_form.place_all.Goals as goal

pub loop-value-preserved : goal.loop-value-preserved
loop-value-preserved g c =
    let vs = c.args.particles.now in
    let k = c.loop-value.value-index in
    let ps : List Placement = map placement_of (map view (take k vs)) in
    record {
      channel = c.put.ensures.channel ∙ c.loop-value.invariant.channel;
      cells = λ w h solid at e.
          let before : ℕ → ℕ → ℕ = λ u v. placed ps u v (at u v) in
          c.put.ensures.cells w h solid before (c.loop-value.invariant.cells w h solid at e)
          ∙ lattice_of-same w h solid solid (λ u v. placed (c.placement.result ∷ []) u v (before u v))
          (λ u v. placed (map placement_of (map view (take (k + 1) vs))) u v (at u v)) (λ u v _ _. refl)
          (λ u v _ _. placed-more ps c.placement.result u v (at u v)
          ∙ ap (λ (p : Placement). placed (ps ++ p ∷ []) u v (at u v)) c.placement.ensures
          ∙ ap (λ qs. placed qs u v (at u v)) (read_more placement_of vs k c.value-item.result c.loop-value-test.true c.value-item.is));
    }

pub returns : goal.returns
returns g c = λ w h solid at e.
    c.loop-value.invariant.cells w h solid at e
    ∙ ap (λ vs. lattice_of w h solid (λ u v. placed (map placement_of (map view vs)) u v (at u v))) (take_all c.loop-value.value-index c.args.particles.now c.loop-value-test.false)
