-- The staggered momenta. A staggered momentum is a sum over the places of a lattice, as the momentum is. A particle that moves along its
-- link crosses to the next line, or has no momentum across the lines, and one that is sent back stays on its line with the opposite momentum:
-- both times its sign in the next generation makes up for that.
use Rattle.std.proofs.Common.{◌≡◌, ℕ, zero, suc, ◌+◌, ◌-◌, ◌*◌, ◌/◌, ◌%◌, ◌<◌, ◌^◌, Bool, true, false, if◌then◌else◌, Some, List, ◌==◌, ◌⊎◌, inl, inr, not, ◌&&◌, ◌||◌, ap, ◌∙◌, sym, refl, arith, ℤ, pos, ◌+ℤ◌, neg_ℤ}
use Rattle.std.proofs.Math.Nat.{mod-eq_of_lt}
use Rattle.std.specs.Prelude.{sum_by}
use Rattle.std.specs.Int.{bit_at}
use Rattle.std.specs.List.{range_with_len}
use Rattle.std.proofs.lemmas.Int.{ints}
use Rattle.std.proofs.lemmas.List.{map-id}
use Rattle.std.proofs.lemmas.Nat.Bits.{bit_at-zero}
use Rattle.std.proofs.lemmas.Bool.Decides.{nat_tests, Decides-int_eq}
use Rattle.std.proofs.lemmas.Bool.{and_parts, cases_lt}
use Rattle.std.specs.Ordering.{int_eq}
use borrow.Author.Differences.{up, down}
use Rattle.gas_geom.specs.declared.moves.Move.{Move}
use Rattle.gas_geom.specs.declared.moves.Move.TheVariants.{Back, Stay, On}
use Rattle.gas_geom.specs.Moves.{column_after, row_after}
use Rattle.gas_geom.specs.Laws.Steps.{is_odd, neighbour-parts, whole_turn}
use Rattle.gas_geom.specs.Laws.Trials.{holds_below, each_below}
use Rattle.gas_geom.specs.Gas.{Rules, IsGas, neighbour_of, signed_sum_by}
use Rattle.gas_geom.specs.Channel.{ChannelModel, is_solid}
use Rattle.gas_geom.specs.Lattice.{cell, set_of, IsLattice, arriving, collided, streamed, next, generation}
use Rattle.gas_geom.specs.Staggered.{Lines, horizontal, rising, falling, alternating, staggered, IsKept}
use Rattle.gas_geom.proofs.Places.{Place, Within}
use Rattle.gas_geom.proofs.Links.{meets, stays, comes, opposed, other_end, other_end-beside}
use Rattle.gas_geom.specs.Planes.{differ}
use Rattle.gas_geom.proofs.Momenta.{part_of}
use Rattle.gas_geom.proofs.Weighted.{Weight, weight_at, origin, kept}

-- the other sign of a number is the sign of its opposite
other-sign : (j k : ℕ) (z z' : ℤ) → (j + k) % 2 ≡ 1 → z +ℤ z' ≡ pos 0 → alternating j z ≡ alternating k z'
other-sign j k z z' odd e = grind (arith, ints, nat_tests)

same-sign : (j k : ℕ) (z : ℤ) → j % 2 ≡ k % 2 → alternating j z ≡ alternating k z
same-sign j k z e = ap (λ r. if r == 1 then neg_ℤ z else z) e

module _ (gas : Rules) (laws : IsGas gas) (lines : Lines) (c : ChannelModel)
    (turned : (i : ℕ) → i < gas.dirs → lines.across (gas.momentum i) +ℤ lines.across (gas.momentum (gas.opposite i)) ≡ pos 0)
    (keeps : (k s : ℕ) (b : Bool) → s < 2 ^ gas.dirs →
    part_of gas (λ i. alternating k (lines.across (gas.momentum i))) (gas.collide s b) ≡ part_of gas (λ i. alternating k (lines.across (gas.momentum i))) s)
    (crosses : (x y i : ℕ) (u : ℕ × ℕ) → x < c.width → y < c.height → i < gas.dirs → neighbour_of gas c.width c.height x y i ≡ Some u →
    (lines.across (gas.momentum i) ≡ pos 0) ⊎ ((lines.line u.0 u.1 + lines.line x y) % 2 ≡ 1)) where
  abbrev m : ℕ → ℤ
  m i = lines.across (gas.momentum i)

  -- the momentum across the lines of a particle, with its sign
  abbrev signed : Weight
  signed t x y i = alternating (t + lines.line x y) (m i)

  -- a particle has there the momentum that it has now, with the next sign
  signed-origin : (t : ℕ) (p : Place) → Within c.width c.height gas.dirs p → is_solid c p.0 p.1 ≡ false →
      weight_at signed (suc t) p ≡ weight_at signed t (origin gas laws c p)
  signed-origin t p h fluid = elim (meets gas laws c p) [
    | stays e arrives ↦ other-sign (suc t + lines.line p.0 p.1) (t + lines.line p.0 p.1) (m p.2) (m (gas.opposite p.2)) (omega arith) (turned p.2 h.2) ∙ sym (ap (λ (q : Place). weight_at signed t (opposed gas laws c q)) e)
    | comes _ u there e ↦
        elim (crosses p.0 p.1 (gas.opposite p.2) u h.0 h.1 (laws.opposite_within p.2 h.2) there) [
          | inl none ↦ by_none u (omega (arith, ints, none, turned p.2 h.2))
          | inr odd ↦ same-sign (suc t + lines.line p.0 p.1) (t + lines.line u.0 u.1) (m p.2) (omega (arith, odd))
        ]
        ∙ ap (λ (i : ℕ). alternating (t + lines.line u.0 u.1) (m i)) (sym (laws.opposite_twice p.2 h.2))
        ∙ sym (ap (λ (q : Place). weight_at signed t (opposed gas laws c q)) (other_end-beside gas laws c p u false fluid there e))
  ]
    where
      by_none : (u : ℕ × ℕ) → m p.2 ≡ pos 0 → alternating (suc t + lines.line p.0 p.1) (m p.2) ≡ alternating (t + lines.line u.0 u.1) (m p.2)
      by_none u e = grind (arith, ints, nat_tests, e)

  lines-kept : IsKept gas lines c
  lines-kept chi start n rows lattice =
      kept gas laws c signed (λ t x y s b h. keeps (t + lines.line x y) s b h) signed-origin chi start n rows lattice

-- ---- the lines that a move crosses
abbrev pub moves_on : Move → Bool
moves_on Back = true
moves_on Stay = false
moves_on On = true

-- whether a move across the rows changes half the row's number, of which the half is rounded up or down
abbrev half_up : Move → Bool → Bool
half_up Back odd = odd
half_up Stay odd = false
half_up On odd = not odd

abbrev half_down : Move → Bool → Bool
half_down Back odd = not odd
half_down Stay odd = false
half_down On odd = odd

abbrev Crossing : Type 0
Crossing = Move × Move → Bool → Bool

abbrev between_rows : Crossing
between_rows step odd = moves_on step.1

abbrev between_rising : Crossing
between_rising step odd = differ (moves_on step.0) (half_up step.1 odd)

abbrev between_falling : Crossing
between_falling step odd = differ (moves_on step.0) (half_down step.1 odd)

-- in a channel, the cell after such a move is on a line of the other kind
abbrev Crosses : Lines → Crossing → ChannelModel → Type 0
Crosses lines crossing c =
    (x y u v : ℕ) (along across : Move) → x < c.width → column_after c.width x along ≡ u → row_after c.height y across ≡ Some v →
    crossing (along, across) (is_odd y) ≡ true → (lines.line u v + lines.line x y) % 2 ≡ 1

crosses-rows : (c : ChannelModel) → Crosses horizontal between_rows c
crosses-rows c x y u v along Back inx to there e = grind (arith, nat_tests)
crosses-rows c x y u v along Stay inx to there e = absurd (cc)
crosses-rows c x y u v along On inx to there e = grind (arith, nat_tests)

-- ---- gases whose directions and sets pass these trials
either : (a b : Bool) → (a || b) ≡ true → (a ≡ true) ⊎ (b ≡ true)
either true b e = inl refl
either false b e = inr e

module _ (gas : Rules) (lines : Lines) (crossing : Crossing) where
  abbrev across : ℕ → ℤ
  across i = lines.across (gas.momentum i)

  abbrev turns : ℕ → Bool
  turns i = int_eq (across i +ℤ across (gas.opposite i)) (pos 0)

  abbrev crosses_or_has_none : Bool → ℕ → Bool
  crosses_or_has_none odd i = int_eq (across i) (pos 0) || crossing (gas.step i odd) odd

  abbrev sum_of : ℕ → ℕ → ℤ
  sum_of k s = part_of gas (λ i. alternating k (across i)) s

  abbrev keeps_sum : ℕ → Bool → ℕ → Bool
  keeps_sum k chi s = int_eq (sum_of k (gas.collide s chi)) (sum_of k s)

  abbrev keeps_sums : Bool → ℕ → Bool
  keeps_sums chi s = keeps_sum 0 chi s && keeps_sum 1 chi s

  abbrev passes : Bool
  passes =
      (holds_below turns gas.dirs && (holds_below (crosses_or_has_none true) gas.dirs && holds_below (crosses_or_has_none false) gas.dirs))
      && (holds_below (keeps_sums true) (2 ^ gas.dirs) && holds_below (keeps_sums false) (2 ^ gas.dirs))

  module _ (passed : passes ≡ true) where
    crossed : (odd : Bool) (i : ℕ) → i < gas.dirs → crosses_or_has_none odd i ≡ true
    crossed true i h = each_below (crosses_or_has_none true) gas.dirs i (grind arith) h
    crossed false i h = each_below (crosses_or_has_none false) gas.dirs i (grind arith) h

    sums-kept : (chi : Bool) (s : ℕ) → s < 2 ^ gas.dirs → keeps_sums chi s ≡ true
    sums-kept true s h = each_below (keeps_sums true) (2 ^ gas.dirs) s (grind arith) h
    sums-kept false s h = each_below (keeps_sums false) (2 ^ gas.dirs) s (grind arith) h

    -- a sign is that of 0 or of 1
    kept-under : (k s : ℕ) (chi : Bool) → s < 2 ^ gas.dirs → sum_of k (gas.collide s chi) ≡ sum_of k s
    kept-under k s chi h = alike (gas.collide s chi) ∙ by (k % 2) (omega arith) ∙ sym (alike s)
      where
        alike : (s : ℕ) → sum_of k s ≡ sum_of (k % 2) s
        alike s = λ r. part_of gas (λ i. same-sign k (k % 2) (across i) (omega arith) r) s

        by : (n : ℕ) → n < 2 → sum_of n (gas.collide s chi) ≡ sum_of n s
        by zero h' = (Decides-int_eq _ _).0 (and_parts _ _ (sums-kept chi s h)).0
        by (suc zero) h' = (Decides-int_eq _ _).0 (and_parts _ _ (sums-kept chi s h)).1
        by (suc (suc n)) h' = absurd (omega arith)

    pub kept-passed : IsGas gas → (c : ChannelModel) → Crosses lines crossing c → IsKept gas lines c
    kept-passed laws c crosses =
        lines-kept gas laws lines c (λ i h. (Decides-int_eq _ _).0 (each_below turns gas.dirs i (grind arith) h)) kept-under
        (λ x y i u inx iny h there.
        let parts = neighbour-parts gas c.width c.height x y i u.0 u.1 there in
        let step : Move × Move = gas.step i (is_odd y) in
        elim (either _ _ (crossed (is_odd y) i h)) [
          | inl none ↦ inl ((Decides-int_eq _ _).0 none)
          | inr e ↦ inr (crosses x y u.0 u.1 step.0 step.1 inx parts.0 parts.1 e)
        ])

-- ---- the columns of a channel of an even width, and the slanted lines
abbrev pub one_if : Bool → ℕ
one_if b = if b then 1 else 0

pub column-parity : (w x u : ℕ) (m : Move) → w % 2 ≡ 0 → x < w → column_after w x m ≡ u → (u + x) % 2 ≡ one_if (moves_on m)
column-parity w x u Back even inx to = elim (cases_lt 0 x) [
  | inl below ↦ let e : u ≡ x - 1 = sym to ∙ whole_turn w (x - 1) (x + w - 1) (omega arith) (omega arith) in omega (arith, e, even)
  | inr first ↦ let e : u ≡ x + w - 1 = sym to ∙ mod-eq_of_lt (omega arith) in omega (arith, e, even)
]
column-parity w x u Stay even inx to = let e : u ≡ x = sym to ∙ mod-eq_of_lt inx in omega (arith, e)
column-parity w x u On even inx to = elim (cases_lt (x + 1) w) [
  | inl inside ↦ let e : u ≡ x + 1 = sym to ∙ mod-eq_of_lt inside in omega (arith, e)
  | inr last ↦ let e : u ≡ 0 = sym to ∙ whole_turn w 0 (x + 1) (omega arith) (omega arith) in omega (arith, e, even)
]

up-parity : (h y v : ℕ) (m : Move) → row_after h y m ≡ Some v → ((v + 1) / 2 + (y + 1) / 2) % 2 ≡ one_if (half_up m (is_odd y))
up-parity h y v Back there = grind (arith, nat_tests)
up-parity h y v Stay there = grind (arith, nat_tests)
up-parity h y v On there = grind (arith, nat_tests)

down-parity : (h y v : ℕ) (m : Move) → row_after h y m ≡ Some v → (v / 2 + y / 2) % 2 ≡ one_if (half_down m (is_odd y))
down-parity h y v Back there = grind (arith, nat_tests)
down-parity h y v Stay there = grind (arith, nat_tests)
down-parity h y v On there = grind (arith, nat_tests)

odd-sum : (u x r s : ℕ) (a b : Bool) → (u + x) % 2 ≡ one_if a → (r + s) % 2 ≡ one_if b → differ a b ≡ true → (u + r + (x + s)) % 2 ≡ 1
odd-sum u x r s true true p q e = absurd (cc)
odd-sum u x r s true false p q e = omega (arith, p, q)
odd-sum u x r s false true p q e = omega (arith, p, q)
odd-sum u x r s false false p q e = absurd (cc)

crosses-rising : (c : ChannelModel) → c.width % 2 ≡ 0 → Crosses rising between_rising c
crosses-rising c even x y u v along across inx to there e =
    odd-sum u x ((v + 1) / 2) ((y + 1) / 2) (moves_on along) (half_up across (is_odd y)) (column-parity c.width x u along even inx to) (up-parity c.height y v across there) e

crosses-falling : (c : ChannelModel) → c.width % 2 ≡ 0 → Crosses falling between_falling c
crosses-falling c even x y u v along across inx to there e =
    odd-sum u x (v / 2) (y / 2) (moves_on along) (half_down across (is_odd y)) (column-parity c.width x u along even inx to) (down-parity c.height y v across there) e

module _ (gas : Rules) (laws : IsGas gas) (c : ChannelModel) where
  pub rows-kept : passes gas horizontal between_rows ≡ true → IsKept gas horizontal c
  rows-kept passed = kept-passed gas horizontal between_rows passed laws c (crosses-rows c)

  pub rising-kept : passes gas rising between_rising ≡ true → c.width % 2 ≡ 0 → IsKept gas rising c
  rising-kept passed even = kept-passed gas rising between_rising passed laws c (crosses-rising c even)

  pub falling-kept : passes gas falling between_falling ≡ true → c.width % 2 ≡ 0 → IsKept gas falling c
  falling-kept passed even = kept-passed gas falling between_falling passed laws c (crosses-falling c even)
