-- A block counted direction by direction is the block of its cells one after another.
use Rattle.std.proofs.Common.{◌≡◌, ◌∙◌, ap, ap₂, sym, true, false, Bool, cond, ℕ, zero, suc, ◌+◌, ◌-◌, ◌*◌, ◌/◌, ◌%◌, ◌<◌, ◌≤◌, take, drop, refl, pos, negsuc, ◌+ℤ◌, ◌*ℤ◌, neg_ℤ, ℤ, arith, List, [], ◌∷◌, fold, length}
use Rattle.std.specs.Prelude.{if◌then◌else◌, not}
use Rattle.std.specs.List.{count_by, range_with_len}
use Rattle.std.proofs.lemmas.Int.{ints}
use Rattle.std.proofs.Math.Nat.{mul-add, mul-le-mul_right, suc-mul}
use Rattle.std.proofs.lemmas.List.Sums.{sum_by-cons, count_by-le-length}
use Rattle.gas_geom.specs.Gas.{Rules, IsGas, holds, signed_sum_by}
use Rattle.gas_geom.proofs.Held.{held_below, sum_held, sum-held, particles-bits}
use Rattle.gas_geom.specs.declared.size.TheConstants.{MOST_SIDE}
use Rattle.std.specs.Int.{bit_at}
use Rattle.gas_geom.proofs.Sets.{bit_of-holds}
use Rattle.gas_geom.proofs.Sums.{sum_below, sum_below-cong, sum_below-zero, sum_below-add}
use Rattle.gas_bits.specs.Words.{bit}
use Rattle.gas_bits.specs.Planes.{has, state}
use Rattle.gas_bits.proofs.Cells.{holds-state, part_get, whole_plane}
use Rattle.gas_bits.proofs.Words.{bit-is}
use Rattle.gas_bits.proofs.Ones.{count-same}
use Rattle.gas_blocks.specs.Inner.Tally.{HasRoom, plus_cell, plus_particles}
use Rattle.gas_blocks.specs.declared.blocks.Block.{Block}
use Rattle.gas_blocks.proofs.Tallies.{IsSmall, Within, Within-add, Within-le}

-- ---- products of whole numbers
times-add : (z : ℤ) (m n : ℕ) → z *ℤ pos (m + n) ≡ z *ℤ pos m +ℤ z *ℤ pos n
times-add (pos a) m n = ap pos (mul-add a m n)
times-add (negsuc a) m n = ap (λ k. neg_ℤ (pos k)) (mul-add (suc a) m n) ∙ apart (suc a * m) (suc a * n)
  where
    apart : (k l : ℕ) → neg_ℤ (pos (k + l)) ≡ neg_ℤ (pos k) +ℤ neg_ℤ (pos l)
    apart k l = omega (arith, ints)

times-zero : (z : ℤ) → z *ℤ pos 0 ≡ pos 0
times-zero (pos a) = ap pos (let e : a * 0 ≡ 0 = omega arith in e)
times-zero (negsuc a) = ap (λ k. neg_ℤ (pos k)) (let e : suc a * 0 ≡ 0 = omega arith in e)

times-one : (z : ℤ) → z *ℤ pos 1 ≡ z
times-one (pos a) = ap pos (let e : a * 1 ≡ a = omega arith in e)
times-one (negsuc a) = ap (λ k. neg_ℤ (pos k)) (let e : suc a * 1 ≡ suc a = omega arith in e)

pub times-within : (z : ℤ) (n : ℕ) → IsSmall z → Within (2 * n) (z *ℤ pos n)
times-within (pos a) n h =
    let le : a * n ≤ 2 * n = mul-le-mul_right n (omega (arith, h)) in
    record { low = omega (arith, ints); high = omega (arith, ints, le) }
times-within (negsuc a) n h =
    let le : suc a * n ≤ 2 * n = mul-le-mul_right n (omega (arith, h)) in
    record { low = omega (arith, ints, le); high = omega (arith, ints) }

-- ---- sums over directions
-- the sum of the numbers `f i` for the i below n, each so many times
abbrev pub sum_times : ℕ → (ℕ → ℕ) → (ℕ → ℤ) → ℤ
sum_times zero count f = pos 0
sum_times (suc n) count f = sum_times n count f +ℤ f n *ℤ pos (count n)

sum_times-zero : (n : ℕ) (f : ℕ → ℤ) → sum_times n (λ _. 0) f ≡ pos 0
sum_times-zero zero f = refl
sum_times-zero (suc n) f = ap₂ (λ y z. y +ℤ z) (sum_times-zero n f) (times-zero (f n))

once_more : (b : Bool) (z : ℤ) (n : ℕ) → z *ℤ pos (cond b 1 0 + n) ≡ (if b then z else pos 0) +ℤ z *ℤ pos n
once_more true z n = times-add z 1 n ∙ ap (λ y. y +ℤ z *ℤ pos n) (times-one z)
once_more false z n = times-add z 0 n ∙ ap (λ y. y +ℤ z *ℤ pos n) (times-zero z)

exchanged : (a b c d : ℤ) → (a +ℤ b) +ℤ (c +ℤ d) ≡ (a +ℤ c) +ℤ (b +ℤ d)
exchanged a b c d = omega (arith, ints)

-- one more set
sum_times-more : (n s : ℕ) (count more : ℕ → ℕ) (f : ℕ → ℤ) → ((i : ℕ) → more i ≡ cond (holds s i) 1 0 + count i) →
    sum_times n more f ≡ sum_held n s f +ℤ sum_times n count f
sum_times-more zero s count more f each = refl
sum_times-more (suc n) s count more f each =
    ap₂ (λ y z. y +ℤ z) (sum_times-more n s count more f each) (ap (λ k. f n *ℤ pos k) (each n) ∙ once_more (holds s n) (f n) (count n))
    ∙ exchanged (sum_held n s f) (sum_times n count f) (if holds s n then f n else pos 0) (f n *ℤ pos (count n))

sum_held-more : (n s : ℕ) (count more : ℕ → ℕ) (f : ℕ → ℤ) → ((i : ℕ) → more i ≡ cond (holds s i) 1 0 + count i) →
    sum_times n more f ≡ signed_sum_by f (held_below n s) +ℤ sum_times n count f
sum_held-more n s count more f each =
    sum_times-more n s count more f each ∙ ap (λ z. z +ℤ sum_times n count f) (sym (sum-held n s f))

sum_below-more : (n s : ℕ) (count more : ℕ → ℕ) → ((i : ℕ) → more i ≡ cond (holds s i) 1 0 + count i) →
    sum_below n more ≡ sum_below n (λ i. bit_at s i) + sum_below n count
sum_below-more n s count more each =
    sum_below-cong n more (λ i. bit_at s i + count i) (λ i h. each i ∙ ap (λ k. k + count i) (bit_of-holds s i))
    ∙ sum_below-add n (λ i. bit_at s i) count

sum_below-le : (n m : ℕ) (f : ℕ → ℕ) → ((i : ℕ) → f i ≤ m) → sum_below n f ≤ n * m
sum_below-le zero m f h = omega arith
sum_below-le (suc n) m f h = omega (arith, sum_below-le n m f h, h n, suc-mul n m)

sum_times-within : (n m : ℕ) (count : ℕ → ℕ) (f : ℕ → ℤ) → ((i : ℕ) → count i ≤ m) → ((i : ℕ) → i < n → IsSmall (f i)) →
    Within (2 * (n * m)) (sum_times n count f)
sum_times-within zero m count f h small = record { low = omega (arith, ints); high = omega (arith, ints) }
sum_times-within (suc n) m count f h small =
    Within-le _ _ _ (omega (arith, h n, suc-mul n m))
    (Within-add _ _ _ _ (sum_times-within n m count f h (λ i lt. small i (omega arith))) (times-within (f n) (count n) (small n (omega arith))))

-- ---- blocks
-- the number of cells with direction i
abbrev pub holding : (ℕ → ℕ) → List ℕ → ℕ → ℕ
holding state xs i = count_by (λ x. holds (state x) i) xs

-- the set bits of the words of a direction
plane_bit : (words : List ℕ) (n d i x : ℕ) → length words ≡ d * n → i < d → x / 64 < n → bit (take n (drop (i * n) words)) x ≡ has words n i x
unfolding has
plane_bit words n d i x long hi lt =
    bit-is (take n (drop (i * n) words)) x
    ∙ ap (λ w. holds w (x % 64)) (part_get words (i * n) n (x / 64) lt (let le = whole_plane n d i hi in omega arith))

pub plane-holding : (words : List ℕ) (n d i from m : ℕ) → length words ≡ d * n → i < d → from + m ≤ 64 * n →
    count_by (bit (take (i * n + n - i * n) (drop (i * n) words))) (range_with_len from m) ≡ holding (state words n d) (range_with_len from m) i
plane-holding words n d i from m long hi within =
    let part : i * n + n - i * n ≡ n = omega arith in
    count-same (bit (take (i * n + n - i * n) (drop (i * n) words))) (λ x. holds (state words n d x) i) from from m (λ k lt.
    ap (λ l. bit (take l (drop (i * n) words)) (from + k)) part
    ∙ plane_bit words n d i (from + k) long hi (omega arith) ∙ sym (holds-state words n d (from + k) i hi))

-- a block with cells, and with their particles in directions below n
abbrev pub counted : Rules → (ℕ → Bool) → (ℕ → ℕ) → Block → List ℕ → ℕ → Block
counted gas solid state b xs n = record {
  col = b.col;
  row = b.row;
  fluid = b.fluid + (length xs - count_by solid xs);
  particles = b.particles + sum_below n (holding state xs);
  px = b.px +ℤ sum_times n (holding state xs) (λ i. (gas.momentum i).0);
  py = b.py +ℤ sum_times n (holding state xs) (λ i. (gas.momentum i).1);
}

same_block : (a b : Block) → a.col ≡ b.col → a.row ≡ b.row → a.fluid ≡ b.fluid → a.particles ≡ b.particles → a.px ≡ b.px → a.py ≡ b.py → a ≡ b
same_block a b p q r s x y = λ t. record { col = p t; row = q t; fluid = r t; particles = s t; px = x t; py = y t }

z_assoc : (a b c : ℤ) → a +ℤ (b +ℤ c) ≡ (a +ℤ b) +ℤ c
z_assoc a b c = omega (arith, ints)

z_none : (a : ℤ) → a +ℤ pos 0 ≡ a
z_none a = omega (arith, ints)

-- the particles of no direction so far
pub counted-none : (gas : Rules) (solid : ℕ → Bool) (state : ℕ → ℕ) (b start : Block) (xs : List ℕ) → start.col ≡ b.col → start.row ≡ b.row →
    start.fluid ≡ b.fluid + (length xs - count_by solid xs) → start.particles ≡ b.particles → start.px ≡ b.px → start.py ≡ b.py →
    start ≡ counted gas solid state b xs 0
counted-none gas solid state b start xs p q r s x y =
    same_block start (counted gas solid state b xs 0) p q r (omega (arith, s)) (x ∙ sym (z_none b.px)) (y ∙ sym (z_none b.py))

-- a block made of its numbers
pub particles_made : (gas : Rules) (b : Block) (i count many : ℕ) (x y : ℤ) → many ≡ count → x ≡ b.px +ℤ (gas.momentum i).0 *ℤ pos count → y ≡ b.py +ℤ (gas.momentum i).1 *ℤ pos count
    → let made : Block = record { col = b.col; row = b.row; fluid = b.fluid; particles = b.particles + many; px = x; py = y } in made ≡ plus_particles gas b i count
particles_made gas b i count many x y m e n = rw (m, e, n) refl

-- the particles of one more direction
pub counted-more : (gas : Rules) (solid : ℕ → Bool) (state : ℕ → ℕ) (b : Block) (xs : List ℕ) (n : ℕ) →
    plus_particles gas (counted gas solid state b xs n) n (holding state xs n) ≡ counted gas solid state b xs (n + 1)
counted-more gas solid state b xs n =
    same_block (plus_particles gas (counted gas solid state b xs n) n (holding state xs n)) (counted gas solid state b xs (suc n)) refl refl refl
    (omega arith) (sym (z_assoc b.px _ _)) (sym (z_assoc b.py _ _))
    ∙ ap (counted gas solid state b xs) (let e : suc n ≡ n + 1 = omega arith in e)

-- one more cell
fluid_more : (s : Bool) (f l c : ℕ) → c ≤ l → f + (suc l - (cond s 1 0 + c)) ≡ f + (if not s then 1 else 0) + (l - c)
fluid_more true f l c h = omega arith
fluid_more false f l c h = omega arith

counted-cell : (gas : Rules) (solid : ℕ → Bool) (state : ℕ → ℕ) (b : Block) (x : ℕ) (xs : List ℕ) →
    counted gas solid state b (x ∷ xs) gas.dirs ≡ counted gas solid state (plus_cell gas b (solid x) (state x)) xs gas.dirs
counted-cell gas solid state b x xs =
    let each : (i : ℕ) → holding state (x ∷ xs) i ≡ cond (holds (state x) i) 1 0 + holding state xs i =
    λ i. sum_by-cons (λ y. cond (holds (state y) i) 1 0) x xs in
    same_block (counted gas solid state b (x ∷ xs) gas.dirs) (counted gas solid state (plus_cell gas b (solid x) (state x)) xs gas.dirs) refl refl
    (ap (λ n. b.fluid + (suc (length xs) - n)) (sum_by-cons (λ y. cond (solid y) 1 0) x xs)
    ∙ fluid_more (solid x) b.fluid (length xs) (count_by solid xs) (count_by-le-length solid xs))
    (omega (arith, particles-bits gas (state x), sum_below-more gas.dirs (state x) (holding state xs) (holding state (x ∷ xs)) each))
    (ap (λ z. b.px +ℤ z) (sum_held-more gas.dirs (state x) (holding state xs) (holding state (x ∷ xs)) (λ i. (gas.momentum i).0) each) ∙ z_assoc b.px _ _)
    (ap (λ z. b.py +ℤ z) (sum_held-more gas.dirs (state x) (holding state xs) (holding state (x ∷ xs)) (λ i. (gas.momentum i).1) each) ∙ z_assoc b.py _ _)

-- the particles of all directions
pub counted-all : (gas : Rules) (solid : ℕ → Bool) (state : ℕ → ℕ) (b : Block) (xs : List ℕ) →
    counted gas solid state b xs gas.dirs ≡ fold (λ c x. plus_cell gas c (solid x) (state x)) b xs
counted-all gas solid state b [] =
    same_block (counted gas solid state b [] gas.dirs) b refl refl (omega arith) (omega (arith, sum_below-zero gas.dirs))
    (ap (λ z. b.px +ℤ z) (sum_times-zero gas.dirs (λ i. (gas.momentum i).0)) ∙ z_none b.px)
    (ap (λ z. b.py +ℤ z) (sum_times-zero gas.dirs (λ i. (gas.momentum i).1)) ∙ z_none b.py)
counted-all gas solid state b (x ∷ xs) =
    counted-cell gas solid state b x xs ∙ counted-all gas solid state (plus_cell gas b (solid x) (state x)) xs

-- cells of one row take the room of a row
pub counted-room : (gas : Rules) → IsGas gas → (solid : ℕ → Bool) (state : ℕ → ℕ) (b : Block) (xs : List ℕ) (n m : ℕ) → n ≤ gas.dirs → length xs ≤ MOST_SIDE →
    HasRoom b m → HasRoom (counted gas solid state b xs n) (m + MOST_SIDE)
counted-room gas laws solid state b xs n m few short h =
    let each : (i : ℕ) → holding state xs i ≤ MOST_SIDE = λ i. omega (arith, count_by-le-length (λ x. holds (state x) i) xs) in
    let most : n ≤ 8 = omega (arith, laws.few_dirs) in
    let le : n * MOST_SIDE ≤ 8 * MOST_SIDE = mul-le-mul_right MOST_SIDE most in
    let east = sum_times-within n MOST_SIDE (holding state xs) (λ i. (gas.momentum i).0) each (λ i lt. (laws.momentum_small i (omega arith)).0) in
    let north = sum_times-within n MOST_SIDE (holding state xs) (λ i. (gas.momentum i).1) each (λ i lt. (laws.momentum_small i (omega arith)).1) in
    record {
      fluid = omega (arith, h.fluid);
      particles = omega (arith, h.particles, sum_below-le n MOST_SIDE (holding state xs) each, le);
      west = omega (arith, ints, h.west, east.low, le);
      east = omega (arith, ints, h.east, east.high, le);
      south = omega (arith, ints, h.south, north.low, le);
      north = omega (arith, ints, h.north, north.high, le);
    }
