-- Lemmas about the values of an area, and its lattice step by step.
use Rattle.std.proofs.Common.{◌≡◌, ℕ, ◌+◌, ◌<◌, Bool, true, false, not, ◌&&◌, List, [], ◌∷◌, ◌++◌, map, length, get_or, take, pos, nat_abs, Some, None, ap, ap₂, sym, ◌∙◌, refl, arith, if◌then◌else◌}
use Rattle.std.specs.List.{list_all}
use Rattle.std.specs.Ordering.{int_eq}
use Rattle.std.proofs.lemmas.Bool.Decides.{nat_tests}
use Rattle.std.proofs.lemmas.Int.{ints}
use Rattle.std.proofs.lemmas.List.{map-append, take_more}
use Rattle.std.proofs.lemmas.List.Folds.{list_all-map}
use Rattle.std.proofs.lemmas.List.Sums.{AllPass-from_list_all}
use Rattle.toml.specs.Data.{Data}
use Rattle.toml.specs.View.{view}
use Rattle.toml.specs.declared.value.Value.{Value}
use Rattle.gas_geom.specs.Channel.{ChannelModel}
use Rattle.gas_geom.specs.Gas.{Rules}
use Rattle.gas_geom.specs.Size.{SizeModel}
use Rattle.gas_layout.specs.declared.area.Rectangle.{Rectangle}
use Rattle.gas_layout.specs.declared.area.Placement.{Placement}
use Rattle.gas_layout.specs.Layout.{between, is_covered, fits, is_index, can_place, drawn, lattice_of, filling, placed}
use Rattle.gas_layout.proofs.Grids.{value-rows_of}
use Rattle.gas_scene.specs.declared.error.SceneError.TheVariants.{Range}
use Rattle.gas_scene.specs.declared.scene_table.SceneTable.{SceneTable}
use Rattle.gas_scene.specs.Table.{TableModel, rectangle_of, placement_of}
use Rattle.gas_scene.specs.Refusals.{area_refusal}
use Rattle.gas_scene.specs.Scene.{area_lattice}
use Rattle.gas_scene.specs.Inner.Models.{table_model, solid_in, can_stand}

-- the first k values and one more, as they are read
pub read_more : {A : Type 0} (f : Data → A) (vs : List Value) (k : ℕ) (v : Value) → k < length vs → v ≡ get_or vs k v
    → map f (map view (take k vs)) ++ f (view v) ∷ [] ≡ map f (map view (take (k + 1) vs))
read_more f vs k v within is =
    sym (ap (λ ws. map f (map view ws)) (take_more vs k v within ∙ ap (λ (w : Value). take k vs ++ w ∷ []) (sym is))
    ∙ ap (map f) (map-append view (take k vs) (v ∷ [])) ∙ map-append f (map view (take k vs)) (view v ∷ []))

-- a test that each value passes, at one of them
pub passes_at : (test : Value → Bool) (vs : List Value) (k : ℕ) (v : Value) → list_all test vs ≡ true → k < length vs → v ≡ get_or vs k v → test v ≡ true
passes_at test vs k v all within is = ap test is ∙ AllPass-from_list_all test vs all k v within

pub placed-more : (ps : List Placement) (p : Placement) (x y s : ℕ) → placed (p ∷ []) x y (placed ps x y s) ≡ placed (ps ++ p ∷ []) x y s
placed-more [] p x y s = refl
placed-more (q ∷ ps) p x y s = placed-more ps p x y (if int_eq q.x (pos x) && int_eq q.y (pos y) then nat_abs q.state else s)

pub area_lattice-is : (gas : Rules) (seed rate : ℕ) (t : TableModel) → seed ≡ nat_abs t.seed → rate ≡ nat_abs t.rate
    → lattice_of (nat_abs t.width) (nat_abs t.height) (λ x y. is_covered t.solid (pos x) (pos y))
    (λ x y. placed t.particles x y (if is_covered t.solid (pos x) (pos y) then 0 else filling gas seed rate (nat_abs t.width) x y))
    ≡ area_lattice gas t
unfolding area_lattice
area_lattice-is gas seed rate t seeded same = rw (seeded, same) refl

-- whether a placement can stand, by the channel and by its rectangles
within-drawn : (states w h : ℕ) (rs : List Rectangle) (p : Placement) (b : Bool) → (is_index w p.x && is_index h p.y) ≡ b
    → can_place states w h (solid_in (drawn w h rs)) p ≡ can_place states w h (is_covered rs) p
within-drawn states w h rs p true is =
    let x_is : pos (nat_abs p.x) ≡ p.x = grind (arith, ints, is) in
    let y_is : pos (nat_abs p.y) ≡ p.y = grind (arith, ints, is) in
    let in_columns : nat_abs p.x < w = grind (arith, ints, is) in
    let in_rows : nat_abs p.y < h = grind (arith, ints, is) in
    ap (λ s. (is_index w p.x && is_index h p.y) && (is_index states p.state && not s))
    (value-rows_of w h (λ x y. is_covered rs (pos x) (pos y)) (nat_abs p.x) (nat_abs p.y) false in_columns in_rows ∙ ap₂ (is_covered rs) x_is y_is)
within-drawn states w h rs p false is =
    ap (λ b. b && (is_index states p.state && not (solid_in (drawn w h rs) p.x p.y))) is
    ∙ sym (ap (λ b. b && (is_index states p.state && not (is_covered rs p.x p.y))) is)

list_all-same : {A : Type 0} (f g : A → Bool) (xs : List A) → ((x : A) → f x ≡ g x) → list_all f xs ≡ list_all g xs
list_all-same f g [] same = refl
list_all-same f g (x ∷ xs) same = ap₂ (λ a b. a && b) (same x) (list_all-same f g xs same)

pub can_stand-drawn : (states w h : ℕ) (rs : List Rectangle) (vs : List Value)
    → can_stand states (drawn w h rs) vs ≡ list_all (can_place states w h (is_covered rs)) (map placement_of (map view vs))
can_stand-drawn states w h rs vs =
    list_all-same (λ v. can_place states w h (solid_in (drawn w h rs)) (placement_of (view v))) (λ v. can_place states w h (is_covered rs) (placement_of (view v))) vs
    (λ v. within-drawn states w h rs (placement_of (view v)) _ refl)
    ∙ sym (list_all-map (can_place states w h (is_covered rs)) placement_of (map view vs) ∙ list_all-map (λ d. can_place states w h (is_covered rs) (placement_of d)) view vs)

pub fits-views : (w h : ℕ) (vs : List Value) → list_all (λ v. fits w h (rectangle_of (view v))) vs ≡ list_all (fits w h) (map rectangle_of (map view vs))
fits-views w h vs = sym (list_all-map (fits w h) rectangle_of (map view vs) ∙ list_all-map (λ d. fits w h (rectangle_of d)) view vs)

-- five tests, the first three as one
rest_decides : (a b c rest : Bool) → true ≡ (a && (b && c)) → (a && (b && (c && rest))) ≡ rest
rest_decides a b c rest all = grind (arith, nat_tests, all)

-- the fault of an area with a size and a rate in range, by the tests of its check
pub area_refusal-tests : (most states : ℕ) (a : SceneTable) (s : SizeModel) (channel : ChannelModel)
    → true ≡ (between (pos 1) (pos most) a.width && (between (pos 1) (pos most) a.height && between (pos 0) (pos 1000) a.rate))
    → s ≡ record { width = nat_abs a.width; height = nat_abs a.height } → channel ≡ drawn s.width s.height (table_model a).solid
    → area_refusal most states (table_model a)
    ≡ (if list_all (λ v. fits s.width s.height (rectangle_of (view v))) a.solid.now && can_stand states channel a.particles.now then None else Some Range)
area_refusal-tests most states a s channel size made is =
    let w = nat_abs a.width in
    let h = nat_abs a.height in
    let rs = (table_model a).solid in
    ap (λ b. if b then None else Some Range) (rest_decides (between (pos 1) (pos most) a.width) (between (pos 1) (pos most) a.height) (between (pos 0) (pos 1000) a.rate) _ size
    ∙ sym (ap₂ (λ f p. f && p)
    (ap (λ (t : SizeModel). list_all (λ v. fits t.width t.height (rectangle_of (view v))) a.solid.now) made ∙ fits-views w h a.solid.now)
    (ap (λ k. can_stand states k a.particles.now) (is ∙ ap (λ (t : SizeModel). drawn t.width t.height rs) made) ∙ can_stand-drawn states w h rs a.particles.now)))
