-- A row and its words: what the words of a row say, and what rows they are after a write.
use Rattle.std.proofs.Common.{◌≡◌, ◌≢◌, ◌⊎◌, ℕ, ◌+◌, ◌*◌, ◌/◌, ◌%◌, ◌^◌, ◌<◌, ◌≤◌, false, ◌&&◌, ◌==◌, if◌then◌else◌, List, length, get_or, set, ltb, refl, sym, ap, ◌∙◌, subst, arith, inl, inr}
use Rattle.std.proofs.lemmas.Bool.{cases_lt}
use Rattle.std.proofs.lemmas.Bool.Decides.{nat_tests}
use Rattle.std.proofs.lemmas.List.{get_or_past, length-set}
use Rattle.std.proofs.lemmas.List.FromFn.{fill_by_all, get_or-map-range_with_len, length-map-range_with_len}
use Rattle.gas_geom.specs.Gas.{holds}
use Rattle.gas_geom.specs.Lattice.{row_of}
use Rattle.gas_geom.specs.Planes.{set_at}
use Rattle.gas_geom.specs.declared.size.TheConstants.{MOST_SIDE}
use Rattle.gas_bits.specs.Words.{words_in}
use Rattle.gas_bits.specs.Planes.{has, state}
use Rattle.gas_rows.specs.Inner.Planes.{ArePlanes, IsClear}
use Rattle.gas_rows.specs.Planes.{cells_of, AreWordsOf}
use Rattle.gas_geom.proofs.Sets.{set_from}
use Rattle.gas_rows.proofs.Cells.{length-cells, cells-lt, holds-cells, width_of, get_or-cells, holds-cells_all, cells-from, cells-written, IsClear-written}
use Rattle.gas_bits.proofs.Cells.{has-set, place_in, state-lt, state-same, state-from, has_word}
use Rattle.gas_geom.proofs.Holds.{holds-zero, holds-above}

-- a fact on each cell and direction, at other names of the two counts
pub each_at : (P : ℕ → ℕ → ℕ → Type 0) (n m dirs d : ℕ) → n ≡ m → dirs ≡ d →
    ((i y : ℕ) → i < dirs → y / 64 < n → P n i y) → (i y : ℕ) → i < d → y / 64 < m → P m i y
each_at P n m dirs d en ed each i y hi hy = subst (λ k. P k i y) en (each i y (omega arith) (omega arith))

-- the words are those of the row, of d directions and that width
pub record AreOf (d width : ℕ) (words row : List ℕ) : Type 0 where
  pub planes : ArePlanes d width words
  pub cells : cells_of d width words ≡ row

-- rows of equal cells
pub row_of-same : {A : Type 0} (d : A) (n : ℕ) (f g : ℕ → A) → ((x : ℕ) → x < n → f x ≡ g x) → row_of n f ≡ row_of n g
row_of-same d n f g each =
    fill_by_all g (row_of n f) n d (length-map-range_with_len f 0 n)
    (λ x h. get_or-map-range_with_len f 0 n x x d h (omega arith) ∙ each x h)

module _ (d width : ℕ) (words row : List ℕ) (inside : ArePlanes d width words) (view : cells_of d width words ≡ row) where
  pub wide : length row ≡ width
  wide = width_of d width words row view

  pub long : length words ≡ d * words_in (length row)
  long = inside.long ∙ ap (λ w. d * words_in w) (sym wide)

  pub read : (x : ℕ) → x < length row → state words (words_in width) d x ≡ get_or row x 0
  read x h = sym (get_or-cells d width words x (let e = wide in omega arith)) ∙ ap (λ r. get_or r x 0) view

  pub read-lt : (x : ℕ) → x < length row → get_or row x 0 < 2 ^ d
  read-lt x h = subst (λ s. s < 2 ^ d) (read x h) (state-lt words (words_in width) d x)

  -- direction i of a cell, also of one past the width
  pub held : (i x : ℕ) → i < d → x < 64 * words_in width → has words (words_in width) i x ≡ holds (get_or row x 0) i
  held i x hi hx = holds-cells_all d width words inside.clear i x hi hx ∙ ap (λ r. holds (get_or r x 0) i) view

  pub held_word : (i j b : ℕ) → i < d → j < words_in width → b < 64 →
      holds (get_or words (i * words_in width + j) 0) b ≡ holds (get_or row (64 * j + b) 0) i
  held_word i j b hi hj hb = sym (has_word words (words_in width) i j b hb) ∙ held i (64 * j + b) hi (omega arith)

  pub words_of : AreWordsOf d row words
  words_of = record {
    long = long;
    bits = λ i j b hi hj hb. subst
        (λ w. j < words_in w → holds (get_or words (i * words_in w + j) 0) b ≡ holds (get_or row (64 * j + b) 0) i)
        (sym wide) (λ h. held_word i j b hi h hb) hj;
  }

  -- a row with one cell written
  module _ (new : List ℕ) (n dirs x s : ℕ) (en : n ≡ words_in width) (ed : dirs ≡ d) (same_long : length new ≡ length words)
      (hx : x < length row) (hs : s < 2 ^ d)
      (each : (i y : ℕ) → i < dirs → y / 64 < n → has new n i y ≡ (if y == x then holds s i else has words n i y)) where
    each_here : (i y : ℕ) → i < d → y / 64 < words_in width →
        has new (words_in width) i y ≡ (if y == x then holds s i else has words (words_in width) i y)
    each_here = each_at (λ m i y. has new m i y ≡ (if y == x then holds s i else has words m i y)) n (words_in width) dirs d en ed each

    pub row-written : AreOf d width new (set row x s)
    row-written = record {
      planes = record {
        some_cells = inside.some_cells;
        few_cells = inside.few_cells;
        long = same_long ∙ inside.long;
        clear = IsClear-written words new d width x s (let e = wide in omega arith) hs each_here inside.clear;
      };
      cells = cells-written words new d width x s (let e = wide in omega arith) hs each_here ∙ ap (λ r. set r x s) view;
    }

  -- a cell of the row, of a word for each direction
  pub state-of_planes : (planes : List ℕ) (n dirs j b : ℕ) → n ≡ words_in width → dirs ≡ d → j < words_in width → b < 64 →
      ((i : ℕ) → i < dirs → get_or planes i 0 ≡ get_or words (i * n + j) 0) → set_at dirs planes b ≡ get_or row (64 * j + b) 0
  state-of_planes planes n dirs j b en ed hj hb gathered =
      ap (λ k. set_at k planes b) ed
      ∙ set_from d (get_or row (64 * j + b) 0) (λ i. holds (get_or planes i 0) b)
      (subst (λ r. get_or r (64 * j + b) 0 < 2 ^ d) view (cells-lt d width words (64 * j + b)))
      (λ i hi. ap (λ w. holds w b) (gathered i (omega arith) ∙ ap (λ m. get_or words (i * m + j) 0) en) ∙ held_word i j b hi hj hb)

  -- a row of other words
  module _ (new : List ℕ) (same_long : length new ≡ length words) where
    pub planes-other : IsClear d width new → ArePlanes d width new
    planes-other clear = record {
      some_cells = inside.some_cells;
      few_cells = inside.few_cells;
      long = same_long ∙ inside.long;
      clear = clear;
    }

    -- what a cell holds after as before, where the words say so of the cells and directions that there are
    pub holds-other : (x k : ℕ) → (x < width → k < d → has new (words_in width) k x ≡ has words (words_in width) k x) →
        holds (get_or (cells_of d width new) x 0) k ≡ holds (get_or row x 0) k
    holds-other x k same = elim (cases_lt x width) [
      | inl lt ↦ elim (cases_lt k d) [
        | inl hk ↦ holds-cells d width new k x hk lt ∙ same lt hk ∙ held k x hk (omega arith)
        | inr le ↦ ap (λ s. holds s k) (get_or-cells d width new x lt)
            ∙ holds-above (state new (words_in width) d x) d k (state-lt new (words_in width) d x) le
            ∙ sym (holds-above (get_or row x 0) d k (read-lt x (let e = wide in omega arith)) le)
      ]
      | inr le ↦ ap (λ s. holds s k) (get_or_past (cells_of d width new) x 0 (omega (arith, length-cells d width new)))
          ∙ sym (ap (λ s. holds s k) (get_or_past row x 0 (let e = wide in omega arith)))
    ]

    -- only direction i changed, and it has nothing past the width
    pub IsClear-changed : (i : ℕ) → ((x : ℕ) → width ≤ x → x < 64 * words_in width → has new (words_in width) i x ≡ false) →
        ((k x : ℕ) → k < d → k ≢ i → x / 64 < words_in width → has new (words_in width) k x ≡ has words (words_in width) k x) →
        IsClear d width new
    IsClear-changed i none rest k x hk le hx =
        let here = none x le hx in
        let there = rest k x hk in
        let before = inside.clear k x hk le hx in
        grind arith

  -- the words with one word of one direction written
  module _ (i j v : ℕ) (hi : i < d) (hj : j < words_in width) where
    abbrev pub word_set : List ℕ
    word_set = set words (i * words_in width + j) v

    one_word : (k x : ℕ) → x / 64 < words_in width →
        has word_set (words_in width) k x ≡ (if (k == i) && (x / 64 == j) then holds v (x % 64) else has words (words_in width) k x)
    one_word k x hx = has-set words (words_in width) i j v k x (omega (arith, place_in (words_in width) d i j hi hj, inside.long)) hj hx

    pub word-written : (b : ℕ) → b < 64 → 64 * j + b < width → holds (get_or (cells_of d width word_set) (64 * j + b) 0) i ≡ holds v b
    word-written b hb h =
        let here = one_word i (64 * j + b) (omega arith) in
        let cell = holds-cells d width word_set i (64 * j + b) hi h in
        grind (arith, nat_tests)

    pub word-others : (x k : ℕ) → (x / 64 ≢ j) ⊎ (k ≢ i) → holds (get_or (cells_of d width word_set) x 0) k ≡ holds (get_or row x 0) k
    word-others x k other =
        holds-other word_set (length-set words (i * words_in width + j) v) x k (λ hx hk. let there = one_word k x (omega arith) in grind (arith, nat_tests))

-- a row whose words were taken over, and cut at the width
module _ (d width : ℕ) (given new : List ℕ) (dirs : ℕ) (ed : dirs ≡ d) (some : 1 ≤ width) (few : width ≤ MOST_SIDE)
    (long_new : length new ≡ d * words_in width)
    (each : (i y : ℕ) → i < dirs → y / 64 < words_in width →
    has new (words_in width) i y ≡ (ltb y width && has given (words_in width) i y)) where
  pub row-loaded : AreOf d width new (cells_of d width given)
  row-loaded = record {
    planes = record {
      some_cells = some;
      few_cells = few;
      long = long_new;
      clear = λ i x hi le hx. let e = each i x (omega arith) (omega arith) in grind (arith, nat_tests);
    };
    cells = cells-from d width new (cells_of d width given) (width_of d width given _ refl) (λ x hx.
        state-same new given (words_in width) d x (λ i hi. let e = each i x (omega arith) (omega arith) in grind (arith, nat_tests))
        ∙ sym (get_or-cells d width given x hx));
  }

-- a row of given states
module _ (d width : ℕ) (new states : List ℕ) (n dirs : ℕ) (en : n ≡ words_in width) (ed : dirs ≡ d) (some : 1 ≤ width) (few : width ≤ MOST_SIDE)
    (long_new : length new ≡ d * words_in width) (all : length states ≡ width) (small : (x : ℕ) → get_or states x 0 < 2 ^ d)
    (each : (i y : ℕ) → i < dirs → y / 64 < n → has new n i y ≡ holds (get_or states y 0) i) where
  each_state : (i y : ℕ) → i < d → y / 64 < words_in width → has new (words_in width) i y ≡ holds (get_or states y 0) i
  each_state = each_at (λ m i y. has new m i y ≡ holds (get_or states y 0) i) n (words_in width) dirs d en ed each

  pub row-of_states : AreOf d width new states
  row-of_states = record {
    planes = record {
      some_cells = some;
      few_cells = few;
      long = long_new;
      clear = λ i x hi le hx. each_state i x hi (omega arith)
          ∙ ap (λ s. holds s i) (get_or_past states x 0 (omega arith)) ∙ holds-zero i;
    };
    cells = cells-from d width new states all (λ x hx.
        state-from new (words_in width) d x (get_or states x 0) (small x) (λ i hi. each_state i x hi (omega arith)));
  }
