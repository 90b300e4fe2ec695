-- The momentum law. The momentum of rows is a sum over the places of a lattice, of each particle's momentum. Streaming moves a particle to
-- the place from which its own place is found again, with the same direction, or with the opposite one where it is sent back. A signed sum
-- is known by two sums of numbers, of what adds to it and of what takes from it.
use Rattle.std.proofs.Common.{◌≡◌, ℕ, zero, suc, ◌+◌, ◌*◌, ◌<◌, ◌^◌, Bool, true, false, if◌then◌else◌, ◌&&◌, Option, Some, None, List, [], ◌∷◌, fold, ◌==◌, ap, ap₂, ◌∙◌, sym, refl, subst, arith, ℤ, pos, ◌+ℤ◌}
use Rattle.std.specs.Prelude.{sum_by}
use Rattle.std.specs.Int.{bit_at}
use Rattle.std.proofs.lemmas.Int.{ints}
use Rattle.std.proofs.lemmas.List.Sums.{sum_by-append}
use Rattle.std.proofs.lemmas.Nat.Bits.{bit_at-lt, bit_at-zero}
use Rattle.gas_geom.proofs.Holds.{bit_cases}
use borrow.Author.Differences.{up, down}
use Rattle.gas_geom.specs.Gas.{Rules, IsGas, holds, directions_of, signed_sum_by}
use Rattle.gas_geom.specs.Channel.{ChannelModel, is_solid}
use Rattle.gas_geom.specs.Lattice.{cell, row_of, rows_of, set_of, IsLattice, arriving, collided, streamed, next}
use Rattle.gas_geom.specs.Momentum.{sent_back, is_wall, is_obstacle}
use Rattle.gas_geom.proofs.Sums.{sum_below, sum_below-cong, sum_below-add, sum_by-row}
use Rattle.gas_geom.proofs.Held.{held_below, held_below-more}
use Rattle.gas_geom.proofs.Places.{Place, Within, total, total-cong, IsSum-total}
use Rattle.gas_geom.proofs.Involution.{sum-involution}
use Rattle.gas_geom.proofs.Sets.{bit_of, bit_of-holds, bit_at-set_of}
use Rattle.gas_geom.proofs.Arriving.{behind}
use Rattle.gas_geom.proofs.Number.{rows_of-cell}
use Rattle.gas_geom.proofs.Links.{held, opposed, other_end, other_end-beside, other_end-within, other_end-twice, opposed-within, opposed-twice, held-streamed, if_fluid, landed}
use Rattle.gas_geom.proofs.Runs.{cell-made}

-- z is what a number adds to it, less what another takes from it
abbrev pub IsLess : ℤ → ℕ → ℕ → Type 0
IsLess z a b = up z + b ≡ down z + a

fold-is : {X : Type 0} (f : X → ℤ) (u d : X → ℕ) → ((x : X) → IsLess (f x) (u x) (d x)) → (z : ℤ) (xs : List X) →
    up (fold (λ a x. a +ℤ f x) z xs) + down z + sum_by d xs ≡ down (fold (λ a x. a +ℤ f x) z xs) + up z + sum_by u xs
fold-is f u d each z [] = omega arith
fold-is f u d each z (x ∷ xs) =
    omega (arith, ints, each x, fold-is f u d each (z +ℤ f x) xs, sum_by-append u (x ∷ []) xs, sum_by-append d (x ∷ []) xs)

-- a signed sum, if each of its terms is known so
pub signed-is : {X : Type 0} (f : X → ℤ) (u d : X → ℕ) → ((x : X) → IsLess (f x) (u x) (d x)) → (xs : List X) →
    IsLess (signed_sum_by f xs) (sum_by u xs) (sum_by d xs)
signed-is f u d each xs = omega (arith, ints, fold-is f u d each (pos 0) xs)

-- a sum over the directions that a set holds
sum-held : (n s : ℕ) (f : ℕ → ℕ) → sum_by f (held_below n s) ≡ sum_below n (λ i. bit_at s i * f i)
sum-held zero s f = refl
sum-held (suc n) s f =
    ap (sum_by f) (held_below-more n s)
    ∙ sum_by-append f (held_below n s) (if holds s n then n ∷ [] else [])
    ∙ ap₂ (λ a b. a + b) (sum-held n s f) (bit_cases (λ b. sum_by f (if b == 1 then n ∷ [] else []) ≡ b * f n) (omega arith) (omega arith) (bit_at s n) (bit_at-lt s n))

-- what adds to a component of the momentum of rows that are made by cells, or what takes from it
abbrev weighed : (ℕ → ℕ) → (ℕ → ℕ → ℕ) → Place → ℕ
weighed f at p = bit_at (at p.0 p.1) p.2 * f p.2

module _ (gas : Rules) (m : ℕ → ℤ) where
  abbrev pub part_of : ℕ → ℤ
  part_of s = signed_sum_by m (directions_of gas s)

  abbrev sum_in : List (List ℕ) → ℤ
  sum_in rows = signed_sum_by (λ row. signed_sum_by part_of row) rows

  abbrev adds : ℕ → ℕ
  adds i = up (m i)

  abbrev takes : ℕ → ℕ
  takes i = down (m i)

  pub cell-is : (s : ℕ) → IsLess (part_of s) (sum_below gas.dirs (λ i. bit_at s i * adds i)) (sum_below gas.dirs (λ i. bit_at s i * takes i))
  cell-is s =
      omega (arith, signed-is m adds takes (λ i. omega arith) (directions_of gas s), sum-held gas.dirs s adds, sum-held gas.dirs s takes)

  total-made : (w h : ℕ) (f : ℕ → ℕ) (at : ℕ → ℕ → ℕ) →
      sum_by (λ row. sum_by (λ s. sum_below gas.dirs (λ i. bit_at s i * f i)) row) (rows_of w h at) ≡ total w h gas.dirs (weighed f at)
  total-made w h f at =
      sum_by-row (λ row. sum_by (λ s. sum_below gas.dirs (λ i. bit_at s i * f i)) row) (λ y. row_of w (λ x. at x y)) h
      ∙ sum_below-cong h _ _ (λ y _. sum_by-row (λ s. sum_below gas.dirs (λ i. bit_at s i * f i)) (λ x. at x y) w)

  made-is : (w h : ℕ) (at : ℕ → ℕ → ℕ) → IsLess (sum_in (rows_of w h at)) (total w h gas.dirs (weighed adds at)) (total w h gas.dirs (weighed takes at))
  made-is w h at =
      omega (
        arith,
        total-made w h adds at,
        total-made w h takes at,
        signed-is (λ row. signed_sum_by part_of row) (λ row. sum_by (λ s. sum_below gas.dirs (λ i. bit_at s i * adds i)) row)
            (λ row. sum_by (λ s. sum_below gas.dirs (λ i. bit_at s i * takes i)) row)
            (λ row. signed-is part_of (λ s. sum_below gas.dirs (λ i. bit_at s i * adds i)) (λ s. sum_below gas.dirs (λ i. bit_at s i * takes i)) cell-is row)
            (rows_of w h at),
      )

-- ---- sums over the places of a lattice
module _ (w h d : ℕ) where
  grid-add : (f g : ℕ → ℕ → ℕ) → sum_below h (λ y. sum_below w (λ x. f x y + g x y)) ≡ sum_below h (λ y. sum_below w (λ x. f x y)) + sum_below h (λ y. sum_below w (λ x. g x y))
  grid-add f g =
      sum_below-cong h _ _ (λ y _. sum_below-add w (λ x. f x y) (λ x. g x y))
      ∙ sum_below-add h (λ y. sum_below w (λ x. f x y)) (λ y. sum_below w (λ x. g x y))

  total-add : (f g : Place → ℕ) → total w h d (λ p. f p + g p) ≡ total w h d f + total w h d g
  total-add f g =
      sum_below-cong h _ _ (λ y _. sum_below-cong w _ _ (λ x _. sum_below-add d (λ i. let p : Place = (x, y, i) in f p) (λ i. let p : Place = (x, y, i) in g p)))
      ∙ grid-add (λ x y. sum_below d (λ i. let p : Place = (x, y, i) in f p)) (λ x y. sum_below d (λ i. let p : Place = (x, y, i) in g p))

  total-four : (a b e f : Place → ℕ) → total w h d (λ p. (a p + (b p + b p)) + ((e p + e p) + f p)) ≡ total w h d a + (total w h d b + total w h d b) + ((total w h d e + total w h d e) + total w h d f)
  total-four a b e f =
      total-add (λ p. a p + (b p + b p)) (λ p. (e p + e p) + f p)
      ∙ ap₂ (λ m n. m + n) (total-add a (λ p. b p + b p) ∙ ap (λ n. total w h d a + n) (total-add b b))
      (total-add (λ p. e p + e p) f ∙ ap (λ n. n + total w h d f) (total-add e e))

-- A place holds n particles, of which `wall` and `solid` were sent back there. A particle adds a to the momentum and takes t from it, where
-- it came from a' and t'.
abbrev Balance : ℕ → ℕ → ℕ → ℕ → ℕ → ℕ → ℕ → Type 0
Balance n wall solid a t a' t' =
    (n * a + (wall * t + wall * t)) + ((solid * t + solid * t) + n * t') ≡ (n * t + (wall * a + wall * a)) + ((solid * a + solid * a) + n * a')

abbrev if_there : Bool → ℕ → ℕ
if_there b n = if b then n else 0

nothing-there : (wall solid : Bool) (a t a' t' : ℕ) → Balance 0 (if_there wall 0) (if_there solid 0) a t a' t'
nothing-there true true a t a' t' = omega arith
nothing-there true false a t a' t' = omega arith
nothing-there false true a t a' t' = omega arith
nothing-there false false a t a' t' = omega arith

goes-on : (n a t : ℕ) → Balance n 0 0 a t a t
goes-on n a t = omega arith

sent-back-wall : (n a t a' t' : ℕ) → n < 2 → a + a' ≡ t + t' → Balance n n 0 a t a' t'
sent-back-wall n a t a' t' h e = bit_cases (λ n. Balance n n 0 a t a' t') (omega arith) (omega (arith, e)) n h

sent-back-solid : (n a t a' t' : ℕ) → n < 2 → a + a' ≡ t + t' → Balance n 0 n a t a' t'
sent-back-solid n a t a' t' h e = bit_cases (λ n. Balance n 0 n a t a' t') (omega arith) (omega (arith, e)) n h

both-bits : (u v : Bool) → bit_of (u && v) ≡ (if v then bit_of u else 0)
both-bits true true = refl
both-bits true false = refl
both-bits false true = refl
both-bits false false = refl

module _ (gas : Rules) (laws : IsGas gas) (c : ChannelModel) (chi : ℕ → ℕ → Bool) (rows : List (List ℕ)) (lattice : IsLattice gas c rows)
    (m : ℕ → ℤ) (turned : (i : ℕ) → i < gas.dirs → m i +ℤ m (gas.opposite i) ≡ pos 0)
    (keeps : (s : ℕ) (b : Bool) → s < 2 ^ gas.dirs → part_of gas m (gas.collide s b) ≡ part_of gas m s) where
  abbrev after : ℕ → ℕ → ℕ
  after = collided gas c chi (cell rows)

  abbrev moved : ℕ → ℕ → ℕ
  moved = streamed gas c after

  abbrev later : List (List ℕ)
  later = next gas c chi rows

  abbrev whole : (Place → ℕ) → ℕ
  whole f = total c.width c.height gas.dirs f

  abbrev Here : Place → Type 0
  Here = Within c.width c.height gas.dirs

  -- the particles of a cell that come from there
  abbrev back : (ChannelModel → Option (ℕ × ℕ) → Bool) → ℕ → ℕ → ℕ
  back is_there x y = set_of gas.dirs (λ i. holds (cell later x y) i && is_there c (behind gas c x y i))

  bit-back : (is_there : ChannelModel → Option (ℕ × ℕ) → Bool) (p : Place) → Here p →
      bit_at (back is_there p.0 p.1) p.2 ≡ if_there (is_there c (behind gas c p.0 p.1 p.2)) (held moved p)
  bit-back is_there p h =
      let b = is_there c (behind gas c p.0 p.1 p.2) in
      bit_at-set_of gas.dirs (λ i. holds (cell later p.0 p.1) i && is_there c (behind gas c p.0 p.1 i)) p.2 h.2
      ∙ ap (λ s. bit_of (holds s p.2 && b)) (cell-made c.width c.height moved p.0 p.1 h.0 h.1)
      ∙ both-bits (holds (moved p.0 p.1) p.2) b
      ∙ ap (if_there b) (bit_of-holds (moved p.0 p.1) p.2)

  -- where what a place holds after streaming was before, with the direction that it had
  abbrev origin : Place → Place
  origin p = opposed gas laws c (other_end gas laws c p)

  from-origin : (f : ℕ → ℕ) → whole (λ p. held moved p * f (origin p).2) ≡ whole (weighed f after)
  from-origin f =
      let sums = IsSum-total c.width c.height gas.dirs in
      total-cong c.width c.height gas.dirs _ _ (λ p h. ap (λ n. n * f (origin p).2) (held-streamed gas laws c after (λ x y e. ap (λ (b : Bool). if b then 0 else gas.collide (cell rows x y) (chi x y)) e) p h))
      ∙ sum-involution _ _ _ sums (other_end gas laws c) (other_end-within gas laws c) (other_end-twice gas laws c) (λ p. weighed f after (opposed gas laws c p))
      ∙ sum-involution _ _ _ sums (opposed gas laws c) (opposed-within gas laws c) (opposed-twice gas laws c) (weighed f after)

  abbrev Balanced : Place → ℕ → ℕ → ℕ → Type 0
  Balanced p wall solid i = Balance (held moved p) wall solid (adds gas m p.2) (takes gas m p.2) (adds gas m i) (takes gas m i)

  -- nothing is in a solid cell
  held-solid : (p : Place) → is_solid c p.0 p.1 ≡ true → held moved p ≡ 0
  held-solid p e = ap (λ (b : Bool). bit_at (if b then 0 else set_of gas.dirs (arriving gas c after p.0 p.1)) p.2) e ∙ bit_at-zero p.2

  opposite-balance : (p : Place) → Here p → adds gas m p.2 + adds gas m (gas.opposite p.2) ≡ takes gas m p.2 + takes gas m (gas.opposite p.2)
  opposite-balance p h = omega (arith, ints, turned p.2 h.2)

  small : (p : Place) → held moved p < 2
  small p = bit_at-lt (moved p.0 p.1) p.2

  balanced : (p : Place) → Here p →
      Balanced p (if_there (is_wall c (behind gas c p.0 p.1 p.2)) (held moved p)) (if_there (is_obstacle c (behind gas c p.0 p.1 p.2)) (held moved p)) (origin p).2
  balanced p h = by (is_solid c p.0 p.1) refl (behind gas c p.0 p.1 p.2) refl
    where
      opposite : ℕ
      opposite = gas.opposite p.2

      Goal : Option (ℕ × ℕ) → ℕ → Type 0
      Goal o i = Balanced p (if_there (is_wall c o) (held moved p)) (if_there (is_obstacle c o) (held moved p)) i

      by_neighbour : (u : ℕ × ℕ) → is_solid c p.0 p.1 ≡ false → behind gas c p.0 p.1 p.2 ≡ Some u → (b : Bool) → is_solid c u.0 u.1 ≡ b →
          Balanced p 0 (if_there b (held moved p)) (origin p).2
      by_neighbour u fluid there true e =
          let stays = other_end-beside gas laws c p u true fluid there e in
          subst (λ (i : ℕ). Balanced p 0 (held moved p) i) (sym (ap (λ (q : Place). gas.opposite q.2) stays))
          (sent-back-solid (held moved p) (adds gas m p.2) (takes gas m p.2) (adds gas m opposite) (takes gas m opposite) (small p) (opposite-balance p h))
      by_neighbour u fluid there false e =
          let comes = other_end-beside gas laws c p u false fluid there e in
          subst (λ (i : ℕ). Balanced p 0 0 i) (sym (ap (λ (q : Place). gas.opposite q.2) comes ∙ laws.opposite_twice p.2 h.2))
          (goes-on (held moved p) (adds gas m p.2) (takes gas m p.2))

      by : (b : Bool) → is_solid c p.0 p.1 ≡ b → (o : Option (ℕ × ℕ)) → behind gas c p.0 p.1 p.2 ≡ o → Goal (behind gas c p.0 p.1 p.2) (origin p).2
      by true e o there =
          let wall = is_wall c (behind gas c p.0 p.1 p.2) in
          let solid = is_obstacle c (behind gas c p.0 p.1 p.2) in
          let i = (origin p).2 in
          subst (λ (n : ℕ). Balance n (if_there wall n) (if_there solid n) (adds gas m p.2) (takes gas m p.2) (adds gas m i) (takes gas m i))
          (sym (held-solid p e)) (nothing-there wall solid (adds gas m p.2) (takes gas m p.2) (adds gas m i) (takes gas m i))
      by false fluid None there =
          let stays : other_end gas laws c p ≡ p = ap (if_fluid gas laws c p) fluid ∙ ap (landed gas laws c p) there in
          subst (λ (o : Option (ℕ × ℕ)). Goal o (origin p).2) (sym there)
          (subst (λ (i : ℕ). Balanced p (held moved p) 0 i) (sym (ap (λ (q : Place). gas.opposite q.2) stays))
          (sent-back-wall (held moved p) (adds gas m p.2) (takes gas m p.2) (adds gas m opposite) (takes gas m opposite) (small p) (opposite-balance p h)))
      by false fluid (Some u) there =
          subst (λ (o : Option (ℕ × ℕ)). Goal o (origin p).2) (sym there) (by_neighbour u fluid there (is_solid c u.0 u.1) refl)

  -- the four sums, of what adds to the momentum or takes from it
  abbrev sums : (ℕ → ℕ) → (ℕ → ℕ) → ℕ
  sums f g =
      (whole (weighed f moved) + (whole (weighed g (back is_wall)) + whole (weighed g (back is_wall))))
      + ((whole (weighed g (back is_obstacle)) + whole (weighed g (back is_obstacle))) + whole (weighed g after))

  sums-balanced : sums (adds gas m) (takes gas m) ≡ sums (takes gas m) (adds gas m)
  sums-balanced = split (adds gas m) (takes gas m) ∙ total-cong c.width c.height gas.dirs _ _ each ∙ sym (split (takes gas m) (adds gas m))
    where
      parts : (ℕ → ℕ) → (ℕ → ℕ) → Place → ℕ
      parts f g p =
          (held moved p * f p.2 + (bit_at (back is_wall p.0 p.1) p.2 * g p.2 + bit_at (back is_wall p.0 p.1) p.2 * g p.2))
          + ((bit_at (back is_obstacle p.0 p.1) p.2 * g p.2 + bit_at (back is_obstacle p.0 p.1) p.2 * g p.2) + held moved p * g (origin p).2)

      split : (f g : ℕ → ℕ) → sums f g ≡ whole (parts f g)
      split f g =
          sym (total-four c.width c.height gas.dirs (weighed f moved) (weighed g (back is_wall)) (weighed g (back is_obstacle)) (λ p. held moved p * g (origin p).2)
          ∙ ap (λ n. (whole (weighed f moved) + (whole (weighed g (back is_wall)) + whole (weighed g (back is_wall))))
          + ((whole (weighed g (back is_obstacle)) + whole (weighed g (back is_obstacle))) + n)) (from-origin g))

      each : (p : Place) → Here p → parts (adds gas m) (takes gas m) p ≡ parts (takes gas m) (adds gas m) p
      each p h =
          subst (λ (solid : ℕ). Balanced p (bit_at (back is_wall p.0 p.1) p.2) solid (origin p).2) (sym (bit-back is_obstacle p h))
          (subst (λ (wall : ℕ). Balanced p wall (if_there (is_obstacle c (behind gas c p.0 p.1 p.2)) (held moved p)) (origin p).2) (sym (bit-back is_wall p h))
          (balanced p h))

  -- a collision keeps the momentum of each cell
  abbrev cell_sum : (ℕ → ℕ) → (ℕ → ℕ → ℕ) → ℕ → ℕ → ℕ
  cell_sum f at x y = sum_below gas.dirs (λ i. bit_at (at x y) i * f i)

  cell-kept : (x y : ℕ) → part_of gas m (after x y) ≡ part_of gas m (cell rows x y)
  cell-kept x y = by (is_solid c x y) refl
    where
      by : (b : Bool) → is_solid c x y ≡ b → part_of gas m (if b then 0 else gas.collide (cell rows x y) (chi x y)) ≡ part_of gas m (cell rows x y)
      by true e = ap (part_of gas m) (sym (lattice.empty x y e))
      by false e = keeps (cell rows x y) (chi x y) (lattice.sets x y)

  collision-kept : whole (weighed (adds gas m) after) + whole (weighed (takes gas m) (cell rows)) ≡ whole (weighed (takes gas m) after) + whole (weighed (adds gas m) (cell rows))
  collision-kept =
      sym (grid-add c.width c.height gas.dirs (cell_sum (adds gas m) after) (cell_sum (takes gas m) (cell rows)))
      ∙ sum_below-cong c.height _ _ (λ y _. sum_below-cong c.width _ _ (λ x _. omega (arith, ints, cell-kept x y, cell-is gas m (after x y), cell-is gas m (cell rows x y))))
      ∙ grid-add c.width c.height gas.dirs (cell_sum (takes gas m) after) (cell_sum (adds gas m) (cell rows))

  pub momentum-kept :
      sum_in gas m later
      ≡ sum_in gas m rows +ℤ (sum_in gas m (sent_back gas c is_wall later) +ℤ sum_in gas m (sent_back gas c is_wall later))
      +ℤ (sum_in gas m (sent_back gas c is_obstacle later) +ℤ sum_in gas m (sent_back gas c is_obstacle later))
  momentum-kept =
      omega (
        arith,
        ints,
        ap (sum_in gas m) (rows_of-cell gas c rows lattice),
        sums-balanced,
        collision-kept,
        made-is gas m c.width c.height moved,
        made-is gas m c.width c.height (back is_wall),
        made-is gas m c.width c.height (back is_obstacle),
        made-is gas m c.width c.height (cell rows),
      )
