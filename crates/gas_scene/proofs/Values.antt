-- Values and their views, and the members of a table: their keys, and what an insert adds.
use Rattle.std.proofs.Common.{◌≡◌, ◌&&◌, Bool, true, List, [], ◌∷◌, map, refl, ap, sym, ◌∙◌, Vec, Global, String, Ordering, Less, Equal, Greater, string_bytes}
use Rattle.std.specs.Prelude.{is_some}
use Rattle.std.specs.BTreeMap.{insert_entry}
use Rattle.std.specs.List.{list_all}
use Rattle.std.specs.Ordering.{match_ordering}
use Rattle.std.specs.String.{string_cmp}
use Rattle.std.proofs.lemmas.List.Folds.{list_all-map}
use Rattle.toml.specs.Data.{Data, as_array}
use Rattle.toml.specs.View.{view, items_of, members_view}
use Rattle.toml.specs.declared.value.Value.{Value, Array}
use Rattle.toml.proofs.Views.{view-Array}
use Rattle.gas_scene.specs.Table.{list_of, elements_of}
use Rattle.gas_scene.specs.Keys.{are_known, is_array_of}
use Rattle.gas_scene.specs.Inner.Models.{is_known}
use Rattle.gas_scene.specs.Inner.Printing.{insert_member}

pub list_of-items_of : (ds : List Data) → list_of (items_of ds) ≡ ds
list_of-items_of [] = refl
list_of-items_of (d ∷ ds) = ap (λ (xs : List Data). d ∷ xs) (list_of-items_of ds)

pub elements_of-Array : (v : Vec Value Global) → elements_of (view (Array v)) ≡ map view v.items
elements_of-Array v = ap elements_of (view-Array v) ∙ list_of-items_of (map view v.items)

-- an array, by its elements
pub is_array_of-elements : (test : Data → Bool) (vs : List Value) (d : Data) → is_some (as_array d) ≡ true → map view vs ≡ elements_of d → list_all (λ v. test (view v)) vs ≡ is_array_of test d
is_array_of-elements test vs d is seen = sym (list_all-map test view vs) ∙ ap (list_all test) seen ∙ ap (λ b. b && list_all test (elements_of d)) (sym is)

-- whether the keys of the members are keys of a scene
pub all_known : (es : List (String Global × Value)) → list_all (λ k. is_known (string_bytes k)) (map (λ e. e.0) es) ≡ are_known (members_view es)
unfolding is_known
all_known [] = refl
all_known (e ∷ es) = ap (λ b. is_known (string_bytes e.0) && b) (all_known es)

match_members : (o : Ordering) (a b c : List (String Global × Value)) → members_view (match_ordering o a b c) ≡ match_ordering o (members_view a) (members_view b) (members_view c)
match_members Less a b c = refl
match_members Equal a b c = refl
match_members Greater a b c = refl

pub members_view-insert : (es : List (String Global × Value)) (k : String Global) (v : Value)
    → members_view (insert_entry string_cmp es k v) ≡ insert_member (string_bytes k) (view v) (members_view es)
members_view-insert [] k v = refl
members_view-insert (e ∷ es) k v = match_members (string_cmp k e.0) _ _ _ ∙ rw (members_view-insert es k v) refl
