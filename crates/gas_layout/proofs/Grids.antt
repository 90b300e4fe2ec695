-- Lattices by their cells, and a cell that changes.
use Rattle.std.proofs.Common.{◌≡◌, ◌≢◌, ◌⊎◌, inl, inr, ℕ, ◌<◌, Bool, false, List, [], map, length, replicate, get_or, set, ap, ◌∙◌, sym, refl, arith, ⊎_elim, if◌then◌else◌}
use Rattle.std.specs.List.{range_with_len}
use Rattle.std.proofs.lemmas.Bool.{cases_eq}
use Rattle.std.proofs.lemmas.List.{get_or-replicate, length-replicate, get_or-set_same, get_or-set_other, length-set}
use Rattle.std.proofs.lemmas.List.FromFn.{fill_by_all, length-map-range_with_len, get_or-map-range_with_len}
use Rattle.gas_geom.specs.Lattice.{with_cell, rows_of}
use Rattle.gas_rows.proofs.Rows.{row_of-same}
use Rattle.gas_layout.specs.Layout.{lattice_of}

-- row k, and the value at a cell
row-rows_of : {A : Type 0} (w h : ℕ) (f : ℕ → ℕ → A) (k : ℕ) → k < h → get_or (rows_of w h f) k [] ≡ map (λ u. f u k) (range_with_len 0 w)
row-rows_of w h f k within = get_or-map-range_with_len (λ y. map (λ u. f u y) (range_with_len 0 w)) 0 h k k [] within (omega arith)

pub value-rows_of : {A : Type 0} (w h : ℕ) (f : ℕ → ℕ → A) (x y : ℕ) (d : A) → x < w → y < h → get_or (get_or (rows_of w h f) y []) x d ≡ f x y
value-rows_of w h f x y d in_columns in_rows =
    ap (λ row. get_or row x d) (row-rows_of w h f y in_rows) ∙ get_or-map-range_with_len (λ u. f u y) 0 w x x d in_columns (omega arith)

-- rows of the same values
pub rows_of-same : {A : Type 0} (w h : ℕ) (f g : ℕ → ℕ → A) (d : A) → ((u k : ℕ) → u < w → k < h → f u k ≡ g u k) → rows_of w h f ≡ rows_of w h g
rows_of-same w h f g d same =
    fill_by_all (λ k. map (λ u. g u k) (range_with_len 0 w)) (rows_of w h f) h [] (length-map-range_with_len (λ k. map (λ u. f u k) (range_with_len 0 w)) 0 h)
    (λ k within. row-rows_of w h f k within ∙ row_of-same d w (λ u. f u k) (λ u. g u k) (λ u in_row. same u k in_row within))

pub rows_of-replicate : {A : Type 0} (w h : ℕ) (f : ℕ → ℕ → A) (d : A) → ((u k : ℕ) → d ≡ f u k) → replicate h (replicate w d) ≡ rows_of w h f
rows_of-replicate w h f d same =
    fill_by_all (λ k. map (λ u. f u k) (range_with_len 0 w)) (replicate h (replicate w d)) h [] (length-replicate h (replicate w d))
    (λ k within. get_or-replicate h k (replicate w d) [] within
    ∙ fill_by_all (λ u. f u k) (replicate w d) w d (length-replicate w d) (λ u in_row. get_or-replicate w u d d in_row ∙ same u k))

-- rows with another value at one cell
pub rows_of-set : {A : Type 0} (w h : ℕ) (f g : ℕ → ℕ → A) (x y : ℕ) (v : A) → x < w → y < h → v ≡ g x y
    → ((u k : ℕ) → (u ≢ x) ⊎ (k ≢ y) → f u k ≡ g u k)
    → set (rows_of w h f) y (set (get_or (rows_of w h f) y []) x v) ≡ rows_of w h g
rows_of-set {A = A} w h f g x y v in_columns in_rows new old =
    fill_by_all (λ k. map (λ u. g u k) (range_with_len 0 w)) (set (rows_of w h f) y changed) h []
    (length-set (rows_of w h f) y changed ∙ high)
    (λ k within. ⊎_elim
    (λ (e : k ≡ y). ap (λ j. get_or (set (rows_of w h f) y changed) j []) e
    ∙ get_or-set_same (rows_of w h f) y changed [] (omega (arith, high)) ∙ row_y ∙ ap (λ j. map (λ u. g u j) (range_with_len 0 w)) (sym e))
    (λ (ne : k ≢ y). get_or-set_other (rows_of w h f) y k changed [] ne ∙ row-rows_of w h f k within
    ∙ row_of-same v w (λ u. f u k) (λ u. g u k) (λ u in_row. old u k (inr ne)))
    (cases_eq k y))
  where
    changed : List A
    changed = set (get_or (rows_of w h f) y []) x v

    high : length (rows_of w h f) ≡ h
    high = length-map-range_with_len (λ k. map (λ u. f u k) (range_with_len 0 w)) 0 h

    wide : length (get_or (rows_of w h f) y []) ≡ w
    wide = ap length (row-rows_of w h f y in_rows) ∙ length-map-range_with_len (λ u. f u y) 0 w

    row_y : changed ≡ map (λ u. g u y) (range_with_len 0 w)
    row_y = fill_by_all (λ u. g u y) changed w v (length-set (get_or (rows_of w h f) y []) x v ∙ wide)
        (λ u in_row. ⊎_elim
        (λ (e : u ≡ x). ap (λ j. get_or changed j v) e ∙ get_or-set_same (get_or (rows_of w h f) y []) x v v (omega (arith, wide)) ∙ new ∙ ap (λ j. g j y) (sym e))
        (λ (ne : u ≢ x). get_or-set_other (get_or (rows_of w h f) y []) x u v v ne ∙ value-rows_of w h f u y v in_row in_rows ∙ old u y (inl ne))
        (cases_eq u x))

-- rows with another row
pub rows_of-set_row : {A : Type 0} (w h : ℕ) (f g : ℕ → ℕ → A) (y : ℕ) (row : List A) (d : A) → y < h → length row ≡ w
    → ((u : ℕ) → u < w → get_or row u d ≡ g u y) → ((u k : ℕ) → k ≢ y → f u k ≡ g u k) → set (rows_of w h f) y row ≡ rows_of w h g
rows_of-set_row w h f g y row d in_rows wide new old =
    fill_by_all (λ k. map (λ u. g u k) (range_with_len 0 w)) (set (rows_of w h f) y row) h []
    (length-set (rows_of w h f) y row ∙ high)
    (λ k within. ⊎_elim
    (λ (e : k ≡ y). ap (λ j. get_or (set (rows_of w h f) y row) j []) e
    ∙ get_or-set_same (rows_of w h f) y row [] (omega (arith, high))
    ∙ fill_by_all (λ u. g u y) row w d wide new ∙ ap (λ j. map (λ u. g u j) (range_with_len 0 w)) (sym e))
    (λ (ne : k ≢ y). get_or-set_other (rows_of w h f) y k row [] ne ∙ row-rows_of w h f k within
    ∙ row_of-same d w (λ u. f u k) (λ u. g u k) (λ u in_row. old u k ne))
    (cases_eq k y))
  where
    high : length (rows_of w h f) ≡ h
    high = length-map-range_with_len (λ k. map (λ u. f u k) (range_with_len 0 w)) 0 h

pub if_same : {A : Type 0} (b c : Bool) (v d : A) → b ≡ c → (if b then v else d) ≡ (if c then v else d)
if_same b c v d e = ap (λ (t : Bool). if t then v else d) e

-- two lattices of the same values
pub lattice_of-same : (w h : ℕ) (solid solid' : ℕ → ℕ → Bool) (at at' : ℕ → ℕ → ℕ)
    → ((u k : ℕ) → u < w → k < h → solid u k ≡ solid' u k) → ((u k : ℕ) → u < w → k < h → at u k ≡ at' u k)
    → lattice_of w h solid at ≡ lattice_of w h solid' at'
lattice_of-same w h solid solid' at at' same_solid same_at =
    ap (λ g. record { channel = record { width = w; height = h; solid = g }; rows = rows_of w h at }) (rows_of-same w h solid solid' false same_solid)
    ∙ ap (λ rs. record { channel = record { width = w; height = h; solid = rows_of w h solid' }; rows = rs }) (rows_of-same w h at at' 0 same_at)

-- a lattice with another state at one cell
pub lattice_of-state : (w h : ℕ) (solid : ℕ → ℕ → Bool) (at at' : ℕ → ℕ → ℕ) (x y : ℕ) → x < w → y < h
    → ((u k : ℕ) → (u ≢ x) ⊎ (k ≢ y) → at u k ≡ at' u k)
    → record (lattice_of w h solid at) { rows = with_cell (lattice_of w h solid at).rows x y (at' x y) } ≡ lattice_of w h solid at'
lattice_of-state w h solid at at' x y in_columns in_rows others =
    ap (λ rs. record { channel = record { width = w; height = h; solid = rows_of w h solid }; rows = rs })
    (rows_of-set w h at at' x y (at' x y) in_columns in_rows refl others)
