-- The table of a scene.
use Rattle.std.specs.Prelude.{ℕ, List, [], ◌∷◌, map, Option, option_map, slice_get, ℤ, pos, codes}
use Rattle.std.specs.Option.{option_and_then, option_map_or, unwrap_or}
use Rattle.toml.specs.Data.{Data, Items, no_items, item, Members, get_member, as_str, as_integer, as_array}
use Rattle.gas_layout.specs.declared.area.Rectangle.{Rectangle}
use Rattle.gas_layout.specs.declared.area.Placement.{Placement}

-- a value as a text and as elements; of another type it is the empty text and no element
abbrev pub text_of : Data → List ℕ
text_of d = unwrap_or (as_str d) []

abbrev pub list_of : Items → List Data
list_of no_items = []
list_of (item d ds) = d ∷ list_of ds

abbrev pub elements_of : Data → List Data
elements_of d = option_map_or list_of (as_array d) []

-- integer k of an array, or 0
abbrev pub number : ℕ → Data → ℤ
number k d = unwrap_or (option_and_then as_integer (slice_get (elements_of d) k)) (pos 0)

-- the rectangle of `[x, y, w, h]`, and the placement of `[x, y, state]`
abbrev pub rectangle_of : Data → Rectangle
rectangle_of d = record { x = number 0 d; y = number 1 d; width = number 2 d; height = number 3 d }

abbrev pub placement_of : Data → Placement
placement_of d = record { x = number 0 d; y = number 1 d; state = number 2 d }

-- the value at a key, read, or the default if the key is absent or its value has another type
abbrev pub value_at : {A : Type 0} → (Data → Option A) → List ℕ → A → Members → A
value_at read key otherwise ms = unwrap_or (option_and_then read (get_member key ms)) otherwise

-- the table of a scene, its values as texts and numbers: the rows of a map, from the top, or none and an area. The rate of
-- an area's filling is in thousandths.
pub record TableModel : Type 0 where
  pub version : ℤ
  pub gas : List ℕ
  pub chirality : List ℕ
  pub seed : ℤ
  pub generation : ℤ
  pub cells : Option (List (List ℕ))
  pub width : ℤ
  pub height : ℤ
  pub rate : ℤ
  pub solid : List Rectangle
  pub particles : List Placement

-- the table of these members; an absent key has the default that is here after it
abbrev pub table_of : Members → TableModel
table_of ms = record {
  version = value_at as_integer (codes "version") (pos 1) ms;
  gas = value_at as_str (codes "gas") [] ms;
  chirality = value_at as_str (codes "chirality") (codes "seeded") ms;
  seed = value_at as_integer (codes "seed") (pos 0) ms;
  generation = value_at as_integer (codes "generation") (pos 0) ms;
  cells = option_map (λ d. map text_of (elements_of d)) (get_member (codes "cells") ms);
  width = value_at as_integer (codes "width") (pos 0) ms;
  height = value_at as_integer (codes "height") (pos 0) ms;
  rate = value_at as_integer (codes "rate") (pos 0) ms;
  solid = map rectangle_of (option_map_or elements_of (get_member (codes "solid") ms) []);
  particles = map placement_of (option_map_or elements_of (get_member (codes "particles") ms) []);
}
