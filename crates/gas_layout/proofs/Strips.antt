-- Rectangles by their first rows.
use Rattle.std.proofs.Common.{◌≡◌, ℕ, zero, suc, ◌+◌, ◌<◌, ◌==◌, Bool, true, false, ◌||◌, ◌&&◌, List, [], ◌∷◌, ◌++◌, length, get_or, set, nat_lt, Vec, Global, ap, ap₂, sym, ◌∙◌, refl, arith, subst, ◌≢◌, ◌⊎◌, inl, inr, if◌then◌else◌}
use mathlib.Core.Bool.{or-false}
use Rattle.std.specs.Prelude.{All}
use Rattle.std.specs.List.{list_any}
use Rattle.std.proofs.lemmas.Bool.{cases_eq}
use Rattle.std.proofs.lemmas.Bool.Decides.{nat_tests}
use Rattle.std.proofs.lemmas.List.{get_or-map, map-set, get_or-set_same, get_or-set_other, set-get_or}
use Rattle.std.proofs.lemmas.List.Elements.{All-append, All-cons, All-nil}
use Rattle.std.proofs.lemmas.List.Folds.{list_any-append}
use Rattle.gas_layout.specs.declared.drawing.Strip.{Strip}
use Rattle.gas_layout.specs.Layout.{channel_of, drawn}
use Rattle.gas_layout.specs.Inner.Strips.{reaches, is_reached, is_drawn, IsStrip, AreStrips, strips_of}
use Rattle.gas_layout.proofs.Grids.{rows_of-same}

-- the strips of one row
pub strips-row : (rows : List (Vec Strip Global)) (y : ℕ) (row : Vec Strip Global) → y < length rows → row ≡ get_or rows y row → row.items ≡ get_or (strips_of rows) y []
strips-row rows y row within is = sym (get_or-map (λ v. v.items) rows y row [] within ∙ ap (λ (v : Vec Strip Global). v.items) (sym is))

-- the strips with one more in row `top`
abbrev pub with_strip : List (List Strip) → ℕ → Strip → List (List Strip)
with_strip rows top strip = set rows top (get_or rows top [] ++ strip ∷ [])

-- the strips of an unchanged row, and of one with a strip more
module _ (rows : List (Vec Strip Global)) (top : ℕ) (row d : Vec Strip Global) (within : top < length rows) where
  pub strips-same : row.items ≡ (get_or rows top d).items → strips_of (set rows top row) ≡ strips_of rows
  strips-same same =
      map-set (λ v. v.items) rows top row
      ∙ ap (set (strips_of rows) top) (same ∙ sym (get_or-map (λ v. v.items) rows top d [] within))
      ∙ set-get_or (strips_of rows) top []

  pub strips-more : (strip : Strip) → row.items ≡ (get_or rows top d).items ++ strip ∷ []
      → strips_of (set rows top row) ≡ with_strip (strips_of rows) top strip
  strips-more strip more =
      map-set (λ v. v.items) rows top row
      ∙ ap (set (strips_of rows) top) (more ∙ ap (λ (ss : List Strip). ss ++ strip ∷ []) (sym (get_or-map (λ v. v.items) rows top d [] within)))

-- no strips
pub strips-none : (rows : List (Vec Strip Global)) → All (λ v. v.items ≡ []) rows → (y : ℕ) → get_or (strips_of rows) y [] ≡ []
strips-none [] none y = refl
strips-none (v ∷ rows) none zero = none 0 v (omega arith)
strips-none (v ∷ rows) none (suc y) = strips-none rows (λ i d h. none (suc i) d (omega (arith, h))) y

module _ (rows : List (List Strip)) (none : (y : ℕ) → get_or rows y [] ≡ []) where
  pub AreStrips-none : (w : ℕ) → AreStrips w rows
  AreStrips-none w y = subst (λ ss. All (λ s. IsStrip w s) ss) (sym (none y)) (All-nil (λ s. IsStrip w s))

  is_reached-none : (n x y : ℕ) → is_reached rows n x y ≡ false
  is_reached-none zero x y = refl
  is_reached-none (suc n) x y = ap₂ (λ (b : Bool) (ss : List Strip). b || list_any (λ s. reaches s x y) ss) (is_reached-none n x y) (none n)

  pub drawn-none : (w h : ℕ) → channel_of w h (is_drawn rows) ≡ drawn w h []
  drawn-none w h =
      ap (λ rs. record { width = w; height = h; solid = rs })
      (rows_of-same w h (is_drawn rows) (λ _ _. false) false (λ x y _ _. is_reached-none (y + 1) x y))

-- one strip more
any-if : (b : Bool) (test : Strip → Bool) (ss : List Strip) (s : Strip) → list_any test (if b then ss ++ s ∷ [] else ss) ≡ (list_any test ss || (b && test s))
any-if true test ss s = list_any-append test ss (s ∷ []) ∙ ap (λ (b : Bool). list_any test ss || b) (or-false (test s))
any-if false test ss s = sym (or-false (list_any test ss))

All-if : (b : Bool) (width : ℕ) (ss : List Strip) (s : Strip) → All (λ t. IsStrip width t) ss → IsStrip width s → All (λ t. IsStrip width t) (if b then ss ++ s ∷ [] else ss)
All-if true width ss s all one = All-append (λ t. IsStrip width t) ss (s ∷ []) all (All-cons (λ t. IsStrip width t) s [] one (All-nil (λ t. IsStrip width t)))
All-if false width ss s all one = all

split : (first top : ℕ) → nat_lt first (suc top) ≡ (nat_lt first top || (first == top))
split first top = grind (arith, nat_tests)

one_more : (before rest early here covered : Bool)
    → ((before || (early && covered)) || (rest || (here && covered))) ≡ ((before || rest) || ((early || here) && covered))
one_more before rest early here covered = grind (arith, nat_tests)

module _ (rows : List (List Strip)) (top : ℕ) (strip : Strip) (within : top < length rows) where
  row-with_strip : (k : ℕ) → get_or (with_strip rows top strip) k [] ≡ (if top == k then get_or rows k [] ++ strip ∷ [] else get_or rows k [])
  row-with_strip k = at (cases_eq k top)
    where
      at : (k ≡ top) ⊎ (k ≢ top) → get_or (with_strip rows top strip) k [] ≡ (if top == k then get_or rows k [] ++ strip ∷ [] else get_or rows k [])
      at (inl same) = rw same (let e : (top == top) ≡ true = grind (arith, nat_tests) in rw e (get_or-set_same rows top (get_or rows top [] ++ strip ∷ []) [] within))
      at (inr other) = let e : (top == k) ≡ false = grind (arith, nat_tests, other) in rw e (get_or-set_other rows top k (get_or rows top [] ++ strip ∷ []) [] other)

  pub AreStrips-more : (w : ℕ) → AreStrips w rows → IsStrip w strip → AreStrips w (with_strip rows top strip)
  AreStrips-more w are is y =
      subst (λ ss. All (λ s. IsStrip w s) ss) (sym (row-with_strip y)) (All-if (top == y) w (get_or rows y []) strip (are y) is)

  pub is_reached-more : (n x y : ℕ) → is_reached (with_strip rows top strip) n x y ≡ (is_reached rows n x y || (nat_lt top n && reaches strip x y))
  is_reached-more zero x y = sym (ap (λ (b : Bool). b && reaches strip x y) (none top))
    where
      none : (k : ℕ) → nat_lt k 0 ≡ false
      none k = grind (arith, nat_tests)
  is_reached-more (suc n) x y =
      ap₂ (λ (a b : Bool). a || b) (is_reached-more n x y)
      (ap (list_any (λ s. reaches s x y)) (row-with_strip n) ∙ any-if (top == n) (λ s. reaches s x y) (get_or rows n []) strip)
      ∙ one_more (is_reached rows n x y) (list_any (λ s. reaches s x y) (get_or rows n [])) (nat_lt top n) (top == n) (reaches strip x y)
      ∙ ap (λ (b : Bool). (is_reached rows n x y || list_any (λ s. reaches s x y) (get_or rows n [])) || (b && reaches strip x y)) (sym (split top n))

pub is_reached-next : (rows : List (List Strip)) (n x y : ℕ) → is_reached rows (n + 1) x y ≡ (is_reached rows n x y || list_any (λ s. reaches s x y) (get_or rows n []))
is_reached-next rows n x y = let e : n + 1 ≡ suc n = omega arith in ap (λ m. is_reached rows m x y) e
