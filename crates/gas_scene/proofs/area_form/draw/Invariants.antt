use Rattle.std.proofs.Common.{◌≡◌, map, take}
use Rattle.toml.specs.View.{view}
use Rattle.gas_layout.specs.Layout.{drawn}
use Rattle.gas_scene.specs.Table.{rectangle_of}
use Rattle.gas_scene.proofs.area_form.draw.Given as goal

abbrev pub invariant-loop-value : goal.invariant-loop-value
invariant-loop-value l = l.drawing ≡ drawn l.fn.size.width l.fn.size.height (map rectangle_of (map view (take l.value-index l.solid)))
