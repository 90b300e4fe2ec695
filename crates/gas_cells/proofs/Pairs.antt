-- Lemmas about texts of two characters per cell.
use Rattle.std.proofs.Common.{◌≡◌, ℕ, zero, suc, ◌+◌, ◌-◌, ◌*◌, ◌/◌, ◌%◌, ◌<◌, ◌≤◌, ◌==◌, Bool, true, false, List, [], ◌∷◌, ◌++◌, length, get_or, set, take, drop, min, inl, inr, refl, sym, ap, ap₂, ◌∙◌, append_assoc, append-nil, length-append, length-set, arith}
use Rattle.std.specs.Prelude.{if◌then◌else◌, codes}
use Rattle.std.proofs.lemmas.Grind.{take-set_at, flat_map-append}
use Rattle.std.proofs.lemmas.List.{take_at, drop_at, take_all, take-take, get_or_append_left, get_or-append-add}
use Rattle.std.specs.List.{flat_map, range_with_len}
use Rattle.std.proofs.Math.Seq.{take-add}
use Rattle.std.specs.Fmt.{digit_glyph}
use Rattle.std.specs.Prelude.{nat_lt}
use Rattle.std.specs.Str.{IsAscii}
use Rattle.std.proofs.lemmas.Bool.{agree_below_at, ltb-true, cases_lt}
use Rattle.std.proofs.lemmas.Str.{IsAscii-append}
use Rattle.std.proofs.lemmas.Str.Ascii.{IsAscii-nil}
use Rattle.gas_geom.specs.Channel.{ChannelModel, is_solid}
use Rattle.gas_geom.specs.Lattice.{cell}
use Rattle.gas_cells.specs.Cells.{cell_text, row_cells}
use Rattle.gas_bits.proofs.Ones.{range-append}

-- a cell has two characters
pub cell_text-long : (solid : Bool) (state : ℕ) → length (cell_text solid state) ≡ 2
cell_text-long true state = refl
cell_text-long false state = either (state == 0) _ _
  where
    either : (b : Bool) (x y : ℕ) → length (if b then codes ".." else x ∷ y ∷ []) ≡ 2
    either true x y = refl
    either false x y = refl

two_items : (p : List ℕ) → length p ≡ 2 → get_or p 0 0 ∷ get_or p 1 0 ∷ [] ≡ p
two_items [] long = absurd (omega (arith, long))
two_items (a ∷ []) long = absurd (omega (arith, long))
two_items (a ∷ b ∷ []) long = refl
two_items (a ∷ b ∷ c ∷ p) long = absurd (omega (arith, long))

-- two characters were written after the first n
pub pair_written : (xs p : List ℕ) (n m k : ℕ) → m ≡ n + 1 → k ≡ n + 2 → m < length xs → length p ≡ 2
    → take k (set (set xs n (get_or p 0 0)) m (get_or p 1 0)) ≡ take n xs ++ p
pair_written xs p n m k e f within long =
    take-set_at (set xs n (get_or p 0 0)) m k (get_or p 1 0) (omega (arith, e, f)) (omega (arith, within, length-set xs n (get_or p 0 0)))
    ∙ ap (λ (ys : List ℕ). ys ++ get_or p 1 0 ∷ []) (take-set_at xs n m (get_or p 0 0) e (omega (arith, e, within)))
    ∙ append_assoc (take n xs) (get_or p 0 0 ∷ []) (get_or p 1 0 ∷ [])
    ∙ ap (λ (ys : List ℕ). take n xs ++ ys) (two_items p long)

-- the texts of n numbers from a on
abbrev pub texts : (ℕ → List ℕ) → ℕ → ℕ → List ℕ
texts f a n = flat_map f (range_with_len a n)

pub texts-split : (f : ℕ → List ℕ) (a n m : ℕ) → texts f a (n + m) ≡ texts f a n ++ texts f (a + n) m
texts-split f a n m = ap (flat_map f) (range-append a n m) ∙ flat_map-append f (range_with_len a n) (range_with_len (a + n) m)

pub texts-next : (f : ℕ → List ℕ) (n : ℕ) → texts f 0 (n + 1) ≡ texts f 0 n ++ f n
texts-next f n = texts-split f 0 n 1 ∙ ap (λ k. texts f 0 n ++ texts f k 1) (let e : 0 + n ≡ n = omega arith in e) ∙ ap (λ t. texts f 0 n ++ t) (append-nil (f n))

pub texts-same : (f g : ℕ → List ℕ) (a b n : ℕ) → ((k : ℕ) → k < n → f (a + k) ≡ g (b + k)) → texts f a n ≡ texts g b n
texts-same f g a b zero same = refl
texts-same f g a b (suc n) same =
    let here : f a ≡ g b = ap f (let e : a ≡ a + 0 = omega arith in e) ∙ same 0 (omega arith) ∙ ap g (let e : b + 0 ≡ b = omega arith in e) in
    ap₂ (λ s t. s ++ t) here (texts-same f g (a + 1) (b + 1) n (λ k h.
    ap f (let e : a + 1 + k ≡ a + (k + 1) = omega arith in e) ∙ same (k + 1) (omega arith) ∙ ap g (let e : b + (k + 1) ≡ b + 1 + k = omega arith in e)))

pub pairs-long : (f : ℕ → List ℕ) → ((b : ℕ) → length (f b) ≡ 2) → (a n : ℕ) → length (texts f a n) ≡ 2 * n
pairs-long f two a zero = refl
pairs-long f two a (suc n) = omega (arith, length-append (f a) (texts f (a + 1) n), two a, pairs-long f two (a + 1) n)

-- the first pairs
pub pairs-first : (f : ℕ → List ℕ) → ((b : ℕ) → length (f b) ≡ 2) → (a n m : ℕ) → m ≤ n → take (2 * m) (texts f a n) ≡ texts f a m
pairs-first f two a n m le =
    ap (λ k. take (2 * m) (texts f a k)) (let e : n ≡ m + (n - m) = omega (arith, le) in e)
    ∙ ap (take (2 * m)) (texts-split f a m (n - m)) ∙ take_at (texts f a m) _ (2 * m) (pairs-long f two a m)

-- the first of the pairs that were written
pub pairs-cut : (f : ℕ → List ℕ) → ((b : ℕ) → length (f b) ≡ 2) → (xs : List ℕ) (n m : ℕ) → m ≤ n → take (2 * n) xs ≡ texts f 0 n → take (2 * m) xs ≡ texts f 0 m
pairs-cut f two xs n m le written =
    sym (take-take (2 * m) (2 * n) xs (omega (arith, le))) ∙ ap (take (2 * m)) written ∙ pairs-first f two 0 n m le

-- the characters of a cell, among the characters of its row
pub character : (f : ℕ → List ℕ) → ((b : ℕ) → length (f b) ≡ 2) → (n x k : ℕ) → x < n → k < 2 → get_or (texts f 0 n) (2 * x + k) 0 ≡ get_or (f x) k 0
character f two n x k within few =
    let rest : ℕ = n - (x + 1) in
    let parts : texts f 0 n ≡ texts f 0 x ++ (f x ++ texts f (x + 1) rest) =
    ap (texts f 0) (let e : n ≡ x + suc rest = omega (arith, within) in e) ∙ texts-split f 0 x (suc rest)
    ∙ ap (λ a. texts f 0 x ++ texts f a (suc rest)) (let e : 0 + x ≡ x = omega arith in e) in
    let place : 2 * x + k ≡ length (texts f 0 x) + k = omega (arith, pairs-long f two 0 x) in
    ap₂ (λ (t : List ℕ) (i : ℕ). get_or t i 0) parts place ∙ get_or-append-add (texts f 0 x) _ k 0
    ∙ get_or_append_left (f x) _ 0 k (omega (arith, two x, few))

-- m pairs after the first a, or as many as are left
pub pairs-part : (f : ℕ → List ℕ) → ((b : ℕ) → length (f b) ≡ 2) → (n a m k : ℕ) → a ≤ n → k ≡ min (n - a) m → take (2 * m) (drop (2 * a) (texts f 0 n)) ≡ texts f a k
pairs-part f two n a m k le few =
    let behind : drop (2 * a) (texts f 0 n) ≡ texts f a (n - a) =
    ap (λ e. drop (2 * a) (texts f 0 e)) (let e : n ≡ a + (n - a) = omega (arith, le) in e)
    ∙ ap (drop (2 * a)) (texts-split f 0 a (n - a)) ∙ drop_at (texts f 0 a) _ (2 * a) (pairs-long f two 0 a)
    ∙ ap (λ e. texts f e (n - a)) (let e : 0 + a ≡ a = omega arith in e) in
    elim (cases_lt (n - a) m) [
      | inl past ↦ ap (take (2 * m)) behind ∙ take_all (2 * m) (texts f a (n - a)) (omega (arith, past, pairs-long f two a (n - a))) ∙ ap (texts f a) (omega (arith, few, past))
      | inr whole ↦ ap (take (2 * m)) behind ∙ pairs-first f two a (n - a) m whole ∙ ap (texts f a) (omega (arith, few, whole))
    ]

-- the characters of a cell whose state has eight bits are ASCII
glyph_ascii : (d : ℕ) → d < 16 → digit_glyph false d < 128
glyph_ascii d h = ltb-true _ _ (agree_below_at (λ d. nat_lt (digit_glyph false d) 128) (λ _. true) 16 d refl h)

ascii_pair : (a b : ℕ) → a < 128 → b < 128 → IsAscii (a ∷ b ∷ [])
ascii_pair a b p q zero = p
ascii_pair a b p q (suc zero) = q
ascii_pair a b p q (suc (suc i)) = omega arith

IsAscii-cell_text : (solid : Bool) (state : ℕ) → state < 256 → IsAscii (cell_text solid state)
IsAscii-cell_text true state low = ascii_pair 35 35 (omega arith) (omega arith)
IsAscii-cell_text false state low = either (state == 0)
  where
    either : (b : Bool) → IsAscii (if b then codes ".." else digit_glyph false (state / 16) ∷ digit_glyph false (state % 16) ∷ [])
    either true = ascii_pair 46 46 (omega arith) (omega arith)
    either false = ascii_pair _ _ (glyph_ascii (state / 16) (omega (arith, low))) (glyph_ascii (state % 16) (omega arith))

IsAscii-texts : (f : ℕ → List ℕ) → ((b : ℕ) → IsAscii (f b)) → (a n : ℕ) → IsAscii (texts f a n)
IsAscii-texts f each a zero = IsAscii-nil
IsAscii-texts f each a (suc n) = IsAscii-append (f a) (texts f (a + 1) n) (each a) (IsAscii-texts f each (a + 1) n)

pub IsAscii-row_cells : (channel : ChannelModel) (rows : List (List ℕ)) (y : ℕ) → ((x : ℕ) → cell rows x y < 256) → IsAscii (row_cells channel rows y)
unfolding row_cells
IsAscii-row_cells channel rows y low =
    IsAscii-texts (λ x. cell_text (is_solid channel x y) (cell rows x y)) (λ x. IsAscii-cell_text (is_solid channel x y) (cell rows x y) (low x)) 0 channel.width

pub length-row_cells : (channel : ChannelModel) (rows : List (List ℕ)) (y : ℕ) → length (row_cells channel rows y) ≡ 2 * channel.width
unfolding row_cells
length-row_cells channel rows y =
    pairs-long (λ x. cell_text (is_solid channel x y) (cell rows x y)) (λ x. cell_text-long (is_solid channel x y) (cell rows x y)) 0 channel.width

-- a part of a row's characters
pub row_cells-part : (channel : ChannelModel) (rows : List (List ℕ)) (y a p n : ℕ) (f : ℕ → List ℕ) → a ≤ channel.width → p ≡ 2 * a → n ≡ min (channel.width - a) 64
    → ((b : ℕ) → b < n → f b ≡ cell_text (is_solid channel (a + b) y) (cell rows (a + b) y)) → take 128 (drop p (row_cells channel rows y)) ≡ texts f 0 n
unfolding row_cells
row_cells-part channel rows y a p n f le place few same =
    let g : ℕ → List ℕ = λ x. cell_text (is_solid channel x y) (cell rows x y) in
    ap (λ k. take 128 (drop k (texts g 0 channel.width))) place
    ∙ pairs-part g (λ x. cell_text-long (is_solid channel x y) (cell rows x y)) channel.width a 64 n le few
    ∙ sym (texts-same f g 0 a n (λ b h. ap f (let e : 0 + b ≡ b = omega arith in e) ∙ same b h))

-- one more part of a row's characters
pub parts-next : (row : List ℕ) (j : ℕ) → take (128 * j) row ++ take 128 (drop (128 * j) row) ≡ take (128 * (j + 1)) row
parts-next row j = sym (take-add (128 * j) 128 row) ∙ ap (λ k. take k row) (let e : 128 * j + 128 ≡ 128 * (j + 1) = omega arith in e)
