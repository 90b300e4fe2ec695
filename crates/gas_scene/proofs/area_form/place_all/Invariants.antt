use Rattle.std.proofs.Common.{◌≡◌, ℕ, Bool, map, take}
use Rattle.toml.specs.View.{view}
use Rattle.gas_layout.specs.Layout.{lattice_of, placed}
use Rattle.gas_scene.specs.Table.{placement_of}
use Rattle.gas_scene.proofs.area_form.place_all.Given as goal

abbrev pub invariant-loop-value : goal.invariant-loop-value
invariant-loop-value g l = record {
  channel : l.lattice.channel ≡ l.initial.lattice.channel;
  cells : (w h : ℕ) (solid : ℕ → ℕ → Bool) (at : ℕ → ℕ → ℕ) → l.initial.lattice ≡ lattice_of w h solid at
      → l.lattice ≡ lattice_of w h solid (λ u v. placed (map placement_of (map view (take l.value-index l.particles))) u v (at u v));
}
