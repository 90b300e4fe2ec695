-- Masks as the lists of their cells' truth values.
use Rattle.std.proofs.Common.{◌≡◌, ◌≢◌, ℕ, ◌+◌, ◌-◌, ◌*◌, ◌/◌, ◌%◌, ◌^◌, ◌<◌, ◌≤◌, Bool, true, false, ◌&&◌, not, if◌then◌else◌, List, map, length, get_or, set, replicate, sym, ap, ◌∙◌, arith, length-set, inl, inr}
use Rattle.std.specs.Prelude.{◌==◌, nat_lt}
use Rattle.std.specs.List.{range_with_len, count_by}
use Rattle.std.proofs.lemmas.Bool.{cases_lt, lt-ltb, le-ltb}
use Rattle.std.proofs.lemmas.Bool.Decides.{nat_tests}
use Rattle.std.proofs.lemmas.Nat.Bits.{bit_at_cat_low, bit_at_cat_high}
use Rattle.std.proofs.lemmas.List.{get_or-replicate, length-replicate, ext_get_or, places}
use Rattle.std.proofs.lemmas.Grind.{get_or-set_at}
use Rattle.std.proofs.lemmas.List.FromFn.{get_or-map-range_with_len, length-map-range_with_len, fill_by_all}
use Rattle.gas_geom.specs.Gas.{holds}
use Rattle.gas_geom.specs.declared.size.TheConstants.{MOST_SIDE}
use Rattle.gas_bits.specs.Words.{words_in, bit}
use Rattle.gas_rows.specs.Inner.Mask.{cells, IsMask}
use Rattle.gas_bits.proofs.Words.{bit-is, bit-set, bit-zeros}
use Rattle.gas_bits.proofs.Ones.{count-map}

-- the bits of a word that is made of two halves
pub holds-joined : (low high b : ℕ) → low < 2 ^ 32 → holds (low + high * 2 ^ 32) b ≡ (if nat_lt b 32 then holds low b else holds high (b - 32))
holds-joined low high b lt =
    let turned : low + high * 2 ^ 32 ≡ high * 2 ^ 32 + low = omega arith in
    let choice = λ (t : Bool). if t then holds low b else holds high (b - 32) in
    ap (λ w. holds w b) turned ∙ elim (cases_lt b 32) [
      | inl below ↦ ap (λ x. x == 1) (bit_at_cat_low high 32 low b below) ∙ sym (ap choice (lt-ltb b 32 below))
      | inr above ↦ ap (λ x. x == 1) (bit_at_cat_high high 32 low b lt above) ∙ sym (ap choice (le-ltb b 32 above))
    ]

-- a word more whose halves are two words of 32 cells, of which the second may lie past the width
pub join-more : (words : List ℕ) (half : ℕ → ℕ) (width j low high v : ℕ) → j < length words →
    low ≡ half (2 * j) → (64 * j + 32 < width → high ≡ half (2 * j + 1)) →
    ((b : ℕ) → b < 64 → holds v b ≡ (if nat_lt b 32 then holds low b else holds high (b - 32))) →
    ((x : ℕ) → x / 64 < j → x < width → bit words x ≡ holds (half (x / 32)) (x % 32)) →
    (x : ℕ) → x / 64 < j + 1 → x < width → bit (set words j v) x ≡ holds (half (x / 32)) (x % 32)
join-more words half width j low high v within first second put before x h lt =
    let here = put (x % 64) (omega arith) in
    let earlier = before x in
    let low_place : x / 64 ≡ j → x % 64 < 32 → x / 32 ≡ 2 * j = omega arith in
    let high_place : x / 64 ≡ j → 32 ≤ x % 64 → x / 32 ≡ 2 * j + 1 = omega arith in
    grind (arith, nat_tests, bit-set)

-- ---- masks
pub length-cells : (width : ℕ) (words : List ℕ) → length (cells width words) ≡ width
unfolding cells
length-cells width words = length-map-range_with_len (bit words) 0 width

pub get_or-cells : (width : ℕ) (words : List ℕ) (x : ℕ) → x < width → get_or (cells width words) x false ≡ bit words x
unfolding cells
get_or-cells width words x h = get_or-map-range_with_len (bit words) 0 width x x false h (omega arith)

-- of a mask the words and the cells say the same everywhere
pub bit-cells : (width : ℕ) (words : List ℕ) {blank : Bool} → IsMask width blank words → (x : ℕ) → bit words x ≡ get_or (cells width words) x false
bit-cells width words mask x = let past = mask.clear x in grind (arith, places, get_or-cells, length-cells)

-- a mask has as many cells as its width says
pub ruleset masks = length-cells

pub width_of : (width : ℕ) (words : List ℕ) (xs : List Bool) → cells width words ≡ xs → length xs ≡ width
width_of width words xs e = ap length (sym e) ∙ length-cells width words

pub word-within : (width : ℕ) (words : List ℕ) (xs : List Bool) {blank : Bool} → IsMask width blank words → cells width words ≡ xs →
    (x : ℕ) → x < length xs → x / 64 < length words
word-within width words xs mask e x h = omega (arith, mask.long, width_of width words xs e)

-- a mask is known by its cells
pub cells-from : (width : ℕ) (words : List ℕ) (xs : List Bool) → length xs ≡ width →
    ((x : ℕ) → x < width → bit words x ≡ get_or xs x false) → cells width words ≡ xs
cells-from width words xs long each =
    ext_get_or false (cells width words) xs (length-cells width words ∙ sym long)
    (λ x h. let lt : x < width = omega (arith, length-cells width words) in get_or-cells width words x lt ∙ each x lt)

pub IsMask-blank : (width : ℕ) → 1 ≤ width → width ≤ MOST_SIDE → IsMask width true (replicate (words_in width) 0)
IsMask-blank width some few = record {
  some_cells = some;
  few_cells = few;
  long = length-replicate (words_in width) 0;
  clear = λ x h. bit-zeros (words_in width) x;
  none = λ e x. bit-zeros (words_in width) x;
}

pub cells-blank : (width : ℕ) → cells width (replicate (words_in width) 0) ≡ replicate width false
cells-blank width =
    cells-from width (replicate (words_in width) 0) (replicate width false) (length-replicate width false)
    (λ x h. bit-zeros (words_in width) x ∙ sym (get_or-replicate width x false false h))

-- one cell was changed
module _ (width : ℕ) (words : List ℕ) (x v : ℕ) (value : Bool) {blank : Bool} (mask : IsMask width blank words) (within : x < width)
    (put : (i : ℕ) → i < 64 → holds v i ≡ (if i == x % 64 then value else holds (get_or words (x / 64) 0) i)) where
  in_range : x / 64 < length words
  in_range = omega (arith, mask.long)

  same : bit (set words (x / 64) v) x ≡ value
  same = let here = put (x % 64) (omega arith) in grind (arith, nat_tests, bit-set)

  other : (y : ℕ) → y ≢ x → bit (set words (x / 64) v) y ≡ bit words y
  other y ne = let here = put (y % 64) (omega arith) in grind (arith, nat_tests, bit-set, bit-is)

  none_set : (blank && not value) ≡ true → (y : ℕ) → bit (set words (x / 64) v) y ≡ false
  none_set e y =
      let elsewhere = other y in
      let before = mask.none in
      grind (arith, nat_tests, same)

  pub IsMask-set : IsMask width (blank && not value) (set words (x / 64) v)
  IsMask-set = record {
    none = none_set;
    some_cells = mask.some_cells;
    few_cells = mask.few_cells;
    long = length-set words (x / 64) v ∙ mask.long;
    clear = λ y h. other y (λ e. omega arith) ∙ mask.clear y h;
  }

  pub cells-set : cells width (set words (x / 64) v) ≡ set (cells width words) x value
  cells-set =
      cells-from width (set words (x / 64) v) (set (cells width words) x value)
      (length-set (cells width words) x value ∙ length-cells width words)
      (λ y h. let elsewhere = other y in grind (arith, places, get_or-set_at, length-cells, get_or-cells, same))

-- the cells of a mask are those of `f`
pub record IsWritten (width : ℕ) (blank : Bool) (words : List ℕ) (f : ℕ → Bool) : Type 0 where
  pub mask : IsMask width blank words
  pub cells_are : cells width words ≡ map f (range_with_len 0 width)

-- so they are where all words were written, and the last one was cut at the width
pub written : (width : ℕ) (words : List ℕ) (f : ℕ → Bool) (blank : Bool) → 1 ≤ width → width ≤ MOST_SIDE → length words ≡ words_in width →
    ((x : ℕ) → bit words x ≡ (nat_lt x width && f x)) → (blank ≡ true → (x : ℕ) → bit words x ≡ false) → IsWritten width blank words f
written width words f blank some few long each none = record {
  mask = record {
    none = none;
    some_cells = some;
    few_cells = few;
    long = long;
    clear = λ x h. let here = each x in grind (arith, nat_tests);
  };
  cells_are = fill_by_all f (cells width words) width false (length-cells width words)
      (λ x h. get_or-cells width words x h ∙ (let here = each x in grind (arith, nat_tests)));
}

-- past its end a list says false
pub cut-list : (width : ℕ) (xs : List Bool) → length xs ≡ width → (x : ℕ) → get_or xs x false ≡ (nat_lt x width && get_or xs x false)
cut-list width xs long x = grind (arith, nat_tests, places)

-- ---- lists by the index
pub replicate-map : (f : ℕ → Bool) (n : ℕ) (value : Bool) → ((x : ℕ) → f x ≡ value) → replicate n value ≡ map f (range_with_len 0 n)
replicate-map f n value same =
    fill_by_all f (replicate n value) n false (length-replicate n value) (λ x h. get_or-replicate n x value false h ∙ sym (same x))

-- the cells of a mask
pub count-cells : (width : ℕ) (words : List ℕ) (xs : List Bool) → cells width words ≡ xs →
    count_by (bit words) (range_with_len 0 width) ≡ count_by (λ b. b) xs
unfolding cells
count-cells width words xs e = sym (count-map (bit words) (range_with_len 0 width)) ∙ ap (count_by (λ b. b)) e
