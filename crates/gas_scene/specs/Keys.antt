-- The keys of a scene, and the types of their values.
use Rattle.std.specs.Prelude.{ℕ, ◌==◌, ◌&&◌, Bool, true, List, [], ◌∷◌, Option, is_some, length, codes}
use Rattle.std.specs.List.{list_all, list_any}
use Rattle.std.specs.Option.{option_map_or}
use Rattle.std.specs.Str.{bytes_eq}
use Rattle.toml.specs.Data.{Data, Members, no_members, member, get_member, as_str, as_integer, as_array}
use Rattle.gas_scene.specs.Table.{elements_of}

-- whether a value can be read so
abbrev pub has_type : {A : Type 0} → (Data → Option A) → Data → Bool
has_type read d = is_some (read d)

-- an array whose elements pass a test
abbrev pub is_array_of : (Data → Bool) → Data → Bool
is_array_of test d = is_some (as_array d) && list_all test (elements_of d)

-- an array of n integers
abbrev pub is_tuple : ℕ → Data → Bool
is_tuple n d = (length (elements_of d) == n) && is_array_of (has_type as_integer) d

-- the keys of an area, and all keys, each with the test of its type
abbrev pub area_keys : List (List ℕ × (Data → Bool))
area_keys =
    (codes "width", has_type as_integer) ∷ (codes "height", has_type as_integer) ∷ (codes "rate", has_type as_integer)
    ∷ (codes "solid", is_array_of (is_tuple 4)) ∷ (codes "particles", is_array_of (is_tuple 3)) ∷ []

abbrev pub keys : List (List ℕ × (Data → Bool))
keys =
    (codes "version", has_type as_integer) ∷ (codes "generation", has_type as_integer) ∷ (codes "seed", has_type as_integer)
    ∷ (codes "gas", has_type as_str) ∷ (codes "chirality", has_type as_str) ∷ (codes "cells", is_array_of (has_type as_str))
    ∷ area_keys

-- whether the keys of a table are keys of a scene
abbrev pub are_known : Members → Bool
are_known no_members = true
are_known (member key d ms) = list_any (λ k. bytes_eq key k.0) keys && are_known ms

-- whether each value has the type of its key
unfoldable pub is_typed : Members → Bool
is_typed ms = list_all (λ k. option_map_or k.1 (get_member k.0 ms) true) keys
