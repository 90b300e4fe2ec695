-- Inner words: what functions of this crate promise one another. No public contract cites them.
-- Here: whether a key is one of a scene, the types of values, the code's table as the table of a scene, and areas that are drawn.
use Rattle.std.specs.Prelude.{◌≡◌, ◌≤◌, ℕ, ℤ, Bool, true, List, map, nat_abs, option_map}
use Rattle.std.specs.List.{list_all, list_any}
use Rattle.std.specs.Str.{bytes_eq}
use Rattle.toml.specs.Data.{Data, as_str, as_integer}
use Rattle.toml.specs.View.{view}
use Rattle.toml.specs.declared.value.Value.{Value}
use Rattle.gas_geom.specs.Channel.{ChannelModel, is_solid}
use Rattle.gas_geom.specs.Size.{IsSize}
use Rattle.gas_layout.specs.Layout.{can_place, drawn}
use Rattle.gas_scene.specs.declared.area_form.DrawnArea.{DrawnArea}
use Rattle.gas_scene.specs.declared.scene_table.SceneTable.{SceneTable}
use Rattle.gas_scene.specs.declared.toml_values.ValueType.{ValueType}
use Rattle.gas_scene.specs.declared.toml_values.ValueType.TheVariants as value_type
use Rattle.gas_scene.specs.Keys.{keys, has_type, is_array_of, is_tuple}
use Rattle.gas_scene.specs.Table.{TableModel, text_of, rectangle_of, placement_of}

unfoldable pub is_known : List ℕ → Bool
is_known key = list_any (λ k. bytes_eq key k.0) keys

-- whether a value has a type
abbrev pub is_of : ValueType → Data → Bool
is_of value_type.Integer = has_type as_integer
is_of value_type.Text = has_type as_str
is_of value_type.Texts = is_array_of (has_type as_str)
is_of (value_type.Tuples n) = is_array_of (is_tuple n)

-- the texts of these values
abbrev pub texts_of : List Value → List (List ℕ)
texts_of vs = map text_of (map view vs)

abbrev pub table_model : SceneTable → TableModel
table_model t = record {
  version = t.version;
  gas = t.gas.now;
  chirality = t.chirality.now;
  seed = t.seed;
  generation = t.generation;
  cells = option_map (λ rows. texts_of rows.now) t.cells;
  width = t.width;
  height = t.height;
  rate = t.rate;
  solid = map rectangle_of (map view t.solid.now);
  particles = map placement_of (map view t.particles.now);
}

-- whether a cell of a channel is solid
abbrev pub solid_in : ChannelModel → ℤ → ℤ → Bool
solid_in channel x y = is_solid channel (nat_abs x) (nat_abs y)

-- whether the placements of these values can stand in a channel
abbrev pub can_stand : ℕ → ChannelModel → List Value → Bool
can_stand states channel values =
    list_all (λ v. can_place states channel.width channel.height (solid_in channel) (placement_of (view v))) values

-- an area whose values are in their ranges, and its drawing
pub record IsDrawn (states : ℕ) (t : SceneTable) (area : DrawnArea) : Type 0 where
  pub size : IsSize (nat_abs t.width) (nat_abs t.height)
  pub channel : area.channel ≡ drawn (nat_abs t.width) (nat_abs t.height) (table_model t).solid
  pub can : can_stand states area.channel t.particles.now ≡ true
  pub rate : area.rate ≡ nat_abs t.rate
  pub few : area.rate ≤ 1000
