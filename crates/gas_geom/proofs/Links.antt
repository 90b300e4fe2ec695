-- Links, as maps of the places of a lattice. A place is an end of the link by which a particle comes to it: `other_end` sends
-- it to the neighbour behind it, with the direction against, and leaves it where that is solid or the wall; `opposed` turns the
-- direction alone. Both undo themselves, and what a place holds after streaming is what `opposed (other_end p)` held before.
use Rattle.std.proofs.Common.{◌≡◌, ℕ, Bool, true, false, if◌then◌else◌, Option, Some, None, ap, ◌∙◌, sym, refl, subst}
use Rattle.std.specs.Int.{bit_at}
use Rattle.std.proofs.lemmas.Nat.Bits.{bit_at-zero}
use Rattle.std.proofs.lemmas.Bool.{both_ways}
use Rattle.gas_geom.specs.Gas.{Rules, IsGas, holds}
use Rattle.gas_geom.specs.Laws.Steps.{neighbour-within}
use Rattle.gas_geom.specs.Channel.{ChannelModel, is_solid}
use Rattle.gas_geom.specs.Lattice.{arriving, streamed, set_of}
use Rattle.gas_geom.proofs.Arriving.{behind, arrives_from, arriving-beside}
use Rattle.gas_geom.proofs.Sets.{bit_of, bit_of-holds, bit_at-set_of}
use Rattle.gas_geom.proofs.Involution.{sum-involution}
use Rattle.gas_geom.proofs.Places.{Place, Within, total, total-cong, IsSum-total}

-- what a place holds in the lattice `at`: a particle, 1, or none, 0
abbrev pub held : (ℕ → ℕ → ℕ) → Place → ℕ
held at p = bit_at (at p.0 p.1) p.2

abbrev is_held : (ℕ → ℕ → ℕ) → Place → Bool
is_held at p = holds (at p.0 p.1) p.2

module _ (gas : Rules) (laws : IsGas gas) (c : ChannelModel) where
  abbrev pub from : Place → Option (ℕ × ℕ)
  from p = behind gas c p.0 p.1 p.2

  -- the same place with the direction against
  abbrev pub opposed : Place → Place
  opposed p = (p.0, p.1, gas.opposite p.2)

  -- the place of a neighbour with the direction against
  abbrev pub beside : Place → ℕ × ℕ → Place
  beside p u = (u.0, u.1, gas.opposite p.2)

  abbrev pub landed : Place → Option (ℕ × ℕ) → Place
  landed p None = p
  landed p (Some u) = if is_solid c u.0 u.1 then p else beside p u

  abbrev pub other_end : Place → Place
  other_end p = if is_solid c p.0 p.1 then p else landed p (from p)

  abbrev pub if_fluid : Place → Bool → Place
  if_fluid p solid = if solid then p else landed p (from p)

  pub other_end-beside : (p : Place) (u : ℕ × ℕ) (solid : Bool) → is_solid c p.0 p.1 ≡ false → from p ≡ Some u → is_solid c u.0 u.1 ≡ solid →
      other_end p ≡ (if solid then p else beside p u)
  other_end-beside p u solid fluid there e =
      ap (if_fluid p) fluid ∙ ap (landed p) there ∙ ap (λ (b : Bool). if b then p else beside p u) e

  -- what comes to a place: its own particle, sent back, or a neighbour's
  pub data Meets (p : Place) : Type 0 where
    stays : other_end p ≡ p → (is_solid c p.0 p.1 ≡ false → (at : ℕ → ℕ → ℕ) → arriving gas c at p.0 p.1 p.2 ≡ is_held at (opposed p)) →
        Meets p
    comes : is_solid c p.0 p.1 ≡ false → (u : ℕ × ℕ) → from p ≡ Some u → is_solid c u.0 u.1 ≡ false → Meets p

  pub meets : (p : Place) → Meets p
  meets p = by (is_solid c p.0 p.1) refl (from p) refl
    where
      beside_it : is_solid c p.0 p.1 ≡ false → (u : ℕ × ℕ) → from p ≡ Some u → (b : Bool) → is_solid c u.0 u.1 ≡ b → Meets p
      beside_it fluid u there true e =
          stays (other_end-beside p u true fluid there e) (λ _ at. arriving-beside gas c at p.0 p.1 p.2 u true there e)
      beside_it fluid u there false e = comes fluid u there e

      by : (b : Bool) → is_solid c p.0 p.1 ≡ b → (o : Option (ℕ × ℕ)) → from p ≡ o → Meets p
      by true e o there = stays (ap (if_fluid p) e) (λ fluid. absurd (both_ways (is_solid c p.0 p.1) fluid e))
      by false e None there = stays (ap (if_fluid p) e ∙ ap (landed p) there) (λ _ at. ap (arrives_from gas c at p.0 p.1 p.2) there)
      by false e (Some u) there = beside_it e u there (is_solid c u.0 u.1) refl

  abbrev Here : Place → Type 0
  Here = Within c.width c.height gas.dirs

  pub other_end-within : (p : Place) → Here p → Here (other_end p)
  other_end-within p h = elim (meets p) [
    | stays e arrives ↦ subst Here (sym e) h
    | comes fluid u there e ↦
        let inside = neighbour-within gas c.width c.height p.0 p.1 (gas.opposite p.2) u.0 u.1 h.0 h.1 there in
        subst Here (sym (other_end-beside p u false fluid there e)) (inside.0, inside.1, laws.opposite_within p.2 h.2)
  ]

  -- the neighbour behind the neighbour behind is the cell itself, since steps lead back
  pub other_end-twice : (p : Place) → Here p → other_end (other_end p) ≡ p
  other_end-twice p h = elim (meets p) [
    | stays e arrives ↦ ap other_end e ∙ e
    | comes fluid u there e ↦
        let home : ℕ × ℕ = (p.0, p.1) in
        let back : from (beside p u) ≡ Some home =
        laws.steps_back c.width c.height p.0 p.1 (gas.opposite p.2) u.0 u.1 h.0 h.1 (laws.opposite_within p.2 h.2) there in
        ap other_end (other_end-beside p u false fluid there e) ∙ other_end-beside (beside p u) home false e back fluid
        ∙ ap (λ (i : ℕ). let r : Place = (p.0, p.1, i) in r) (laws.opposite_twice p.2 h.2)
  ]

  pub opposed-within : (p : Place) → Here p → Here (opposed p)
  opposed-within p h = (h.0, h.1, laws.opposite_within p.2 h.2)

  pub opposed-twice : (p : Place) → Here p → opposed (opposed p) ≡ p
  opposed-twice p h = ap (λ (i : ℕ). let r : Place = (p.0, p.1, i) in r) (laws.opposite_twice p.2 h.2)

  module _ (at : ℕ → ℕ → ℕ) where
    -- what arrives at a place of a fluid cell is what stood where it comes from
    held-arriving : (p : Place) → Here p → is_solid c p.0 p.1 ≡ false → arriving gas c at p.0 p.1 p.2 ≡ is_held at (opposed (other_end p))
    held-arriving p h fluid = elim (meets p) [
      | stays e arrives ↦ arrives fluid at ∙ sym (ap (λ q. is_held at (opposed q)) e)
      | comes _ u there e ↦
          arriving-beside gas c at p.0 p.1 p.2 u false there e
          ∙ ap (holds (at u.0 u.1)) (sym (laws.opposite_twice p.2 h.2))
          ∙ sym (ap (λ q. is_held at (opposed q)) (other_end-beside p u false fluid there e))
    ]

    -- what a place holds after streaming, where solid cells were empty before
    pub held-streamed : ((x y : ℕ) → is_solid c x y ≡ true → at x y ≡ 0) →
        (p : Place) → Here p → held (streamed gas c at) p ≡ held at (opposed (other_end p))
    held-streamed empty p h = by (is_solid c p.0 p.1) refl
      where
        set : Bool → ℕ
        set solid = if solid then 0 else set_of gas.dirs (arriving gas c at p.0 p.1)

        by : (b : Bool) → is_solid c p.0 p.1 ≡ b → held (streamed gas c at) p ≡ held at (opposed (other_end p))
        by true e =
            ap (λ b. bit_at (set b) p.2) e
            ∙ bit_at-zero p.2
            ∙ sym (bit_at-zero (gas.opposite p.2))
            ∙ sym (ap (λ s. bit_at s (gas.opposite p.2)) (empty p.0 p.1 e))
            ∙ sym (ap (λ q. held at (opposed q)) (ap (if_fluid p) e))
        by false e =
            ap (λ b. bit_at (set b) p.2) e
            ∙ bit_at-set_of gas.dirs (arriving gas c at p.0 p.1) p.2 h.2
            ∙ ap bit_of (held-arriving p h e)
            ∙ bit_of-holds (at (opposed (other_end p)).0 (opposed (other_end p)).1) (opposed (other_end p)).2

    -- so streaming keeps the particles of the whole lattice
    pub total-streamed : ((x y : ℕ) → is_solid c x y ≡ true → at x y ≡ 0) →
        total c.width c.height gas.dirs (held (streamed gas c at)) ≡ total c.width c.height gas.dirs (held at)
    total-streamed empty =
        let sums = IsSum-total c.width c.height gas.dirs in
        total-cong c.width c.height gas.dirs _ _ (held-streamed empty)
        ∙ sum-involution _ _ _ sums other_end other_end-within other_end-twice (λ p. held at (opposed p))
        ∙ sum-involution _ _ _ sums opposed opposed-within opposed-twice (held at)
