-- Facts about the few directions and sets of a gas, by trying each. Rules that pass all trials are those of a gas; where the rules are
-- written out, the trials compute.
use Rattle.std.proofs.Common.{◌≡◌, ℕ, zero, suc, ◌^◌, ◌<◌, ◌≤◌, Bool, true, false, not, ◌&&◌, ℤ, pos, negsuc, ◌+ℤ◌, arith, ap, sym, ◌∙◌, refl}
use Rattle.std.specs.Prelude.{◌==◌, nat_lt, unsigned_abs}
use Rattle.std.specs.Ordering.{int_eq}
use Rattle.std.proofs.lemmas.Bool.{agree_below, agree_below_at, and_parts}
use Rattle.std.proofs.lemmas.Bool.Decides.{Decides-int_eq, nat_tests}
use Rattle.gas_geom.specs.declared.moves.Move.{Move}
use Rattle.gas_geom.specs.declared.moves.Move.TheVariants.{Back, Stay, On}
use Rattle.gas_geom.specs.Moves.{amount}
use Rattle.gas_geom.specs.Gas.{Rules, IsGas, particles, momentum_of}
use Rattle.gas_geom.specs.Backwards.{IsSymmetric, renamed, turned}
use Rattle.gas_geom.specs.Laws.Steps.{reversed, odd_after, neighbour-back}

-- a test that holds at each number below n, which computes at a written-out n
abbrev pub holds_below : (ℕ → Bool) → ℕ → Bool
holds_below test n = agree_below test (λ _. true) n

pub each_below : (test : ℕ → Bool) (n k : ℕ) → holds_below test n ≡ true → k < n → test k ≡ true
each_below test n k passes h = agree_below_at test (λ _. true) n k passes h

-- nothing is asked of a gas that uses its random bit
pub uses-chirality : (gas : Rules) → true ≡ false → (s : ℕ) (chi chi' : Bool) → gas.collide s chi ≡ gas.collide s chi'
uses-chirality gas e s chi chi' = absurd (cc)

-- ---- equal pairs of numbers, equal steps
abbrev same_pair : ℤ × ℤ → ℤ × ℤ → Bool
same_pair p q = int_eq p.0 q.0 && int_eq p.1 q.1

same_pair-is : (p q : ℤ × ℤ) → same_pair p q ≡ true → p ≡ q
same_pair-is p q e =
    let both = and_parts (int_eq p.0 q.0) (int_eq p.1 q.1) e in
    let x = (Decides-int_eq p.0 q.0).0 both.0 in
    let y = (Decides-int_eq p.1 q.1).0 both.1 in
    λ t. (x t, y t)

-- a move is known by its amount
abbrev move_of : ℤ → Move
move_of (negsuc n) = Back
move_of (pos zero) = Stay
move_of (pos (suc n)) = On

move_of-amount : (m : Move) → move_of (amount m) ≡ m
move_of-amount Back = refl
move_of-amount Stay = refl
move_of-amount On = refl

same_move-is : (m n : Move) → amount m ≡ amount n → m ≡ n
same_move-is m n e = sym (move_of-amount m) ∙ ap move_of e ∙ move_of-amount n

abbrev same_step : Move × Move → Move × Move → Bool
same_step p q = same_pair (amount p.0, amount p.1) (amount q.0, amount q.1)

same_step-is : (p q : Move × Move) → same_step p q ≡ true → p ≡ q
same_step-is p q e =
    let same = same_pair-is (amount p.0, amount p.1) (amount q.0, amount q.1) e in
    let along = same_move-is p.0 q.0 (λ t. (same t).0) in
    let across = same_move-is p.1 q.1 (λ t. (same t).1) in
    λ t. (along t, across t)

module _ (gas : Rules) where
  -- ---- a direction: its opposite is a direction whose opposite it is, the step against it undoes the step in it, from an even and
  -- from an odd row, and its momentum is small
  abbrev is_opposed : ℕ → Bool
  is_opposed i = nat_lt (gas.opposite i) gas.dirs && gas.opposite (gas.opposite i) == i

  abbrev is_undone : Bool → ℕ → Bool
  is_undone odd i =
      let m = gas.step i odd in
      same_step (gas.step (gas.opposite i) (odd_after m.1 odd)) (reversed m.0, reversed m.1)

  abbrev has_small : ℕ → Bool
  has_small i = nat_lt (unsigned_abs (gas.momentum i).0) 3 && nat_lt (unsigned_abs (gas.momentum i).1) 3

  -- ---- a set under a random bit: what a collision makes of it is a set, as many particles, the same momentum, and the collision
  -- under the other bit makes the set of it again
  abbrev keeps_momentum : Bool → ℕ → Bool
  keeps_momentum chi s = same_pair (momentum_of gas (gas.collide s chi)) (momentum_of gas s)

  abbrev set_passes : Bool → ℕ → Bool
  set_passes chi s =
      (nat_lt (gas.collide s chi) (2 ^ gas.dirs) && particles gas (gas.collide s chi) == particles gas s)
      && (keeps_momentum chi s && gas.collide (gas.collide s chi) (not chi) == s)

  -- ---- the trials: 1 to 8 directions, each of which passes, and each set, under both bits
  abbrev pub passes : Bool
  passes =
      (nat_lt 0 gas.dirs && nat_lt gas.dirs 9) && (holds_below is_opposed gas.dirs && holds_below has_small gas.dirs)
      && (holds_below (is_undone true) gas.dirs && holds_below (is_undone false) gas.dirs)
      && (holds_below (set_passes true) (2 ^ gas.dirs) && holds_below (set_passes false) (2 ^ gas.dirs))

  -- ---- what a turn, a mirror and the other random bit do to the outcome
  abbrev set_is_symmetric : (ℕ → ℕ) → (ℕ → ℕ) → Bool → ℕ → Bool
  set_is_symmetric turn mirror chi s =
      (gas.collide (gas.collide s chi) (not chi) == s && gas.collide (turned gas s) chi == turned gas (gas.collide s chi))
      && (gas.collide (renamed gas turn s) chi == renamed gas turn (gas.collide s chi)
      && gas.collide (renamed gas mirror s) (not chi) == renamed gas mirror (gas.collide s chi))

  abbrev turns_momentum : ℕ → Bool
  turns_momentum i =
      let m = gas.momentum i in
      let n = gas.momentum (gas.opposite i) in
      same_pair (m.0 +ℤ n.0, m.1 +ℤ n.1) (pos 0, pos 0)

  abbrev pub is_symmetric : (ℕ → ℕ) → (ℕ → ℕ) → Bool
  is_symmetric turn mirror =
      holds_below turns_momentum gas.dirs && holds_below (set_is_symmetric turn mirror true) (2 ^ gas.dirs) && holds_below (set_is_symmetric turn mirror false) (2 ^ gas.dirs)

  module _ (turn mirror : ℕ → ℕ) (passed : is_symmetric turn mirror ≡ true) where
    symmetric : (chi : Bool) (s : ℕ) → s < 2 ^ gas.dirs → set_is_symmetric turn mirror chi s ≡ true
    symmetric true s h = each_below (set_is_symmetric turn mirror true) (2 ^ gas.dirs) s (grind arith) h
    symmetric false s h = each_below (set_is_symmetric turn mirror false) (2 ^ gas.dirs) s (grind arith) h

    pub IsSymmetric-passed : IsSymmetric gas turn mirror
    IsSymmetric-passed = record {
      momentum_turned = λ i h.
          let both = same_pair-is _ _ (each_below turns_momentum gas.dirs i (grind arith) h) in
          ((λ t. (both t).0), (λ t. (both t).1));
      undone = λ s chi h. let p = symmetric chi s h in grind (arith, nat_tests);
      of_turned = λ s chi h. let p = symmetric chi s h in grind (arith, nat_tests);
      of_rotated = λ s chi h. let p = symmetric chi s h in grind (arith, nat_tests);
      of_mirrored = λ s chi h. let p = symmetric chi s h in grind (arith, nat_tests);
    }

  module _ (passed : passes ≡ true) where
    opposed : (i : ℕ) → i < gas.dirs → is_opposed i ≡ true
    opposed i h = each_below is_opposed gas.dirs i (grind arith) h

    set : (chi : Bool) (s : ℕ) → s < 2 ^ gas.dirs → set_passes chi s ≡ true
    set true s h = each_below (set_passes true) (2 ^ gas.dirs) s (grind arith) h
    set false s h = each_below (set_passes false) (2 ^ gas.dirs) s (grind arith) h

    undoes : (i : ℕ) → i < gas.dirs → (odd : Bool) →
        gas.step (gas.opposite i) (odd_after (gas.step i odd).1 odd) ≡ (reversed (gas.step i odd).0, reversed (gas.step i odd).1)
    undoes i h true = same_step-is _ _ (each_below (is_undone true) gas.dirs i (grind arith) h)
    undoes i h false = same_step-is _ _ (each_below (is_undone false) gas.dirs i (grind arith) h)

    small : (i : ℕ) → i < gas.dirs → (unsigned_abs (gas.momentum i).0 ≤ 2) × (unsigned_abs (gas.momentum i).1 ≤ 2)
    small i h = let p = each_below has_small gas.dirs i (grind arith) h in grind (arith, nat_tests)

    back : (s : ℕ) (chi : Bool) → s < 2 ^ gas.dirs → gas.collide (gas.collide s chi) (not chi) ≡ s
    back s chi h = let p = set chi s h in grind (arith, nat_tests)

    pub IsGas-passed : IsGas gas
    IsGas-passed = record {
      some_dirs = grind (arith, nat_tests);
      few_dirs = grind (arith, nat_tests);
      opposite_within = λ i h. let p = opposed i h in grind (arith, nat_tests);
      opposite_twice = λ i h. let p = opposed i h in grind (arith, nat_tests);
      steps_back = λ w h x y i x' y' inx iny ini. neighbour-back gas w h x y i x' y' (undoes i ini) inx iny;
      momentum_small = small;
      collide_within = λ s chi h. let p = set chi s h in grind (arith, nat_tests);
      collide_keeps = λ s chi h. let p = set chi s h in grind (arith, nat_tests);
      collide_keeps_momentum = λ s chi h. let p = set chi s h in same_pair-is _ _ (let e : keeps_momentum chi s ≡ true = grind arith in e);
      collide_one_to_one = λ s t chi hs ht e. sym (back s chi hs) ∙ ap (λ v. gas.collide v (not chi)) e ∙ back t chi ht;
    }
