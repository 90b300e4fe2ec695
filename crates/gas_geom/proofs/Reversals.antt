-- Runs backwards. Streaming, turning and streaming again turns, since each link is gone along there and back. A collision under the
-- other random bit undoes one, and a turned set collides as the set does.
use Rattle.std.proofs.Common.{◌≡◌, ℕ, zero, suc, ◌+◌, ◌<◌, ◌^◌, Bool, true, false, not, if◌then◌else◌, List, ap, ◌∙◌, sym, refl, arith}
use Rattle.std.proofs.lemmas.Nat.{pow_pos}
use Rattle.gas_geom.specs.Gas.{Rules, IsGas, holds}
use Rattle.gas_geom.specs.Channel.{ChannelModel, is_solid}
use Rattle.gas_geom.specs.Lattice.{cell, IsLattice, arriving, collided, streamed, set_of, next, generation}
use Rattle.gas_geom.specs.Backwards.{IsSymmetric, turned, reversed}
use Rattle.gas_geom.specs.Laws.Steps.{neighbour-within}
use Rattle.gas_geom.proofs.Holds.{set_of-same, holds-set_of, holds-zero}
use Rattle.gas_geom.proofs.Sets.{set_from}
use Rattle.gas_geom.proofs.Arriving.{arriving-beside}
use Rattle.gas_geom.proofs.Places.{Place, Within}
use Rattle.gas_geom.proofs.Links.{meets, stays, comes}
use Rattle.gas_geom.proofs.Number.{rows_of-cell}
use Rattle.gas_geom.proofs.Runs.{cell-made, rows_of-same, IsLattice-next, IsLattice-generation, generation-add}

module _ (gas : Rules) (laws : IsGas gas) where
  -- whether a turned set holds a direction
  holds-turned : (s i : ℕ) → i < gas.dirs → holds (turned gas s) i ≡ holds s (gas.opposite i)
  holds-turned s i h = holds-set_of gas.dirs (λ j. holds s (gas.opposite j)) i h

  turned-zero : turned gas 0 ≡ 0
  turned-zero = set_from gas.dirs 0 (λ i. holds 0 (gas.opposite i)) (pow_pos gas.dirs) (λ i _. holds-zero (gas.opposite i) ∙ sym (holds-zero i))

  turned-twice : (s : ℕ) → s < 2 ^ gas.dirs → turned gas (turned gas s) ≡ s
  turned-twice s h =
      set_from gas.dirs s (λ i. holds (turned gas s) (gas.opposite i)) h
      (λ i lt. holds-turned s (gas.opposite i) (laws.opposite_within i lt) ∙ ap (holds s) (laws.opposite_twice i lt))

  module _ (c : ChannelModel) (at : ℕ → ℕ → ℕ) where
    -- the streamed lattice, turned
    abbrev back : ℕ → ℕ → ℕ
    back x y = turned gas (streamed gas c at x y)

    back-fluid : (x y : ℕ) → is_solid c x y ≡ false → back x y ≡ turned gas (set_of gas.dirs (arriving gas c at x y))
    back-fluid x y e = ap (λ (b : Bool). turned gas (if b then 0 else set_of gas.dirs (arriving gas c at x y))) e

    -- what the turned cell sends in direction i came in the opposite direction
    holds-back : (x y i : ℕ) → is_solid c x y ≡ false → i < gas.dirs → holds (back x y) i ≡ arriving gas c at x y (gas.opposite i)
    holds-back x y i fluid h =
        ap (λ s. holds s i) (back-fluid x y fluid) ∙ holds-turned (set_of gas.dirs (arriving gas c at x y)) i h
        ∙ holds-set_of gas.dirs (arriving gas c at x y) (gas.opposite i) (laws.opposite_within i h)

    arriving-back : (p : Place) → Within c.width c.height gas.dirs p → is_solid c p.0 p.1 ≡ false →
        arriving gas c back p.0 p.1 p.2 ≡ holds (at p.0 p.1) (gas.opposite p.2)
    arriving-back p h fluid = elim (meets gas laws c p) [
      | stays e arrives ↦
          arrives fluid back
          ∙ holds-back p.0 p.1 (gas.opposite p.2) fluid (laws.opposite_within p.2 h.2)
          ∙ ap (arriving gas c at p.0 p.1) (laws.opposite_twice p.2 h.2)
          ∙ arrives fluid at
      | comes _ u there e ↦
          let home : ℕ × ℕ = (p.0, p.1) in
          let opposite = gas.opposite p.2 in
          arriving-beside gas c back p.0 p.1 p.2 u false there e
          ∙ holds-back u.0 u.1 p.2 e h.2
          ∙ arriving-beside gas c at u.0 u.1 opposite home false
          (laws.steps_back c.width c.height p.0 p.1 opposite u.0 u.1 h.0 h.1 (laws.opposite_within p.2 h.2) there) fluid
    ]

    -- so streaming once more leads to the turned lattice
    streamed-back : (x y : ℕ) → x < c.width → y < c.height → is_solid c x y ≡ false → streamed gas c back x y ≡ turned gas (at x y)
    streamed-back x y inx iny fluid =
        ap (λ (b : Bool). if b then 0 else set_of gas.dirs (arriving gas c back x y)) fluid
        ∙ set_of-same gas.dirs (arriving gas c back x y) (λ i. holds (at x y) (gas.opposite i)) (λ i h. arriving-back (x, y, i) (inx, iny, h) fluid)

  module _ (c : ChannelModel) where
    abbrev Same : (ℕ → ℕ → ℕ) → (ℕ → ℕ → ℕ) → Type 0
    Same at other = (x y : ℕ) → x < c.width → y < c.height → at x y ≡ other x y

    -- streaming looks at cells of the channel alone
    arriving-same : (at other : ℕ → ℕ → ℕ) → Same at other → (p : Place) → Within c.width c.height gas.dirs p → is_solid c p.0 p.1 ≡ false →
        arriving gas c at p.0 p.1 p.2 ≡ arriving gas c other p.0 p.1 p.2
    arriving-same at other same p h fluid = elim (meets gas laws c p) [
      | stays e arrives ↦ arrives fluid at ∙ ap (λ s. holds s (gas.opposite p.2)) (same p.0 p.1 h.0 h.1) ∙ sym (arrives fluid other)
      | comes _ u there e ↦
          let inside = neighbour-within gas c.width c.height p.0 p.1 (gas.opposite p.2) u.0 u.1 h.0 h.1 there in
          arriving-beside gas c at p.0 p.1 p.2 u false there e
          ∙ ap (λ s. holds s p.2) (same u.0 u.1 inside.0 inside.1)
          ∙ sym (arriving-beside gas c other p.0 p.1 p.2 u false there e)
    ]

    streamed-same : (at other : ℕ → ℕ → ℕ) → Same at other → (x y : ℕ) → x < c.width → y < c.height → is_solid c x y ≡ false →
        streamed gas c at x y ≡ streamed gas c other x y
    streamed-same at other same x y inx iny fluid =
        ap (λ (b : Bool). if b then 0 else set_of gas.dirs (arriving gas c at x y)) fluid
        ∙ set_of-same gas.dirs (arriving gas c at x y) (arriving gas c other x y) (λ i h. arriving-same at other same (x, y, i) (inx, iny, h) fluid)
        ∙ sym (ap (λ (b : Bool). if b then 0 else set_of gas.dirs (arriving gas c other x y)) fluid)

    -- two lattices with the same next lattice
    module _ (chi : ℕ → ℕ → Bool) (rows other : List (List ℕ)) (lattice : IsLattice gas c rows) (another : IsLattice gas c other)
        (alike : next gas c chi rows ≡ next gas c chi other) where
      abbrev collided_rows : List (List ℕ) → ℕ → ℕ → ℕ
      collided_rows cells = collided gas c chi (cell cells)

      back-alike : Same (back c (collided_rows rows)) (back c (collided_rows other))
      back-alike x y inx iny =
          ap (turned gas) (sym (cell-made c.width c.height (streamed gas c (collided_rows rows)) x y inx iny)
          ∙ ap (λ (cells : List (List ℕ)). cell cells x y) alike
          ∙ cell-made c.width c.height (streamed gas c (collided_rows other)) x y inx iny)

      turned-alike : (x y : ℕ) → x < c.width → y < c.height → is_solid c x y ≡ false →
          turned gas (collided_rows rows x y) ≡ turned gas (collided_rows other x y)
      turned-alike x y inx iny fluid =
          sym (streamed-back c (collided_rows rows) x y inx iny fluid)
          ∙ streamed-same (back c (collided_rows rows)) (back c (collided_rows other)) back-alike x y inx iny fluid
          ∙ streamed-back c (collided_rows other) x y inx iny fluid

      cell-alike : (x y : ℕ) → x < c.width → y < c.height → cell rows x y ≡ cell other x y
      cell-alike x y inx iny = by (is_solid c x y) refl
        where
          after : List (List ℕ) → ℕ
          after cells = gas.collide (cell cells x y) (chi x y)

          by : (b : Bool) → is_solid c x y ≡ b → cell rows x y ≡ cell other x y
          by true e = lattice.empty x y e ∙ sym (another.empty x y e)
          by false e =
              laws.collide_one_to_one (cell rows x y) (cell other x y) (chi x y) (lattice.sets x y) (another.sets x y)
              (sym (turned-twice (after rows) (laws.collide_within (cell rows x y) (chi x y) (lattice.sets x y)))
              ∙ ap (turned gas) (sym (ap (λ (b : Bool). turned gas (if b then 0 else after rows)) e) ∙ turned-alike x y inx iny e ∙ ap (λ (b : Bool). turned gas (if b then 0 else after other)) e)
              ∙ turned-twice (after other) (laws.collide_within (cell other x y) (chi x y) (another.sets x y)))

      pub same-before : rows ≡ other
      same-before = rows_of-cell gas c rows lattice ∙ rows_of-same c.width c.height _ _ cell-alike ∙ sym (rows_of-cell gas c other another)

    module _ (turn mirror : ℕ → ℕ) (symmetry : IsSymmetric gas turn mirror) (chi : Bool) where
      -- a collision, a turn and a collision under the other bit are a turn
      undone-turned : (s : ℕ) → s < 2 ^ gas.dirs → gas.collide (turned gas (gas.collide s chi)) (not chi) ≡ turned gas s
      undone-turned s h =
          symmetry.of_turned (gas.collide s chi) (not chi) (laws.collide_within s chi h) ∙ ap (turned gas) (symmetry.undone s chi h)

      abbrev after : List (List ℕ) → ℕ → ℕ → ℕ
      after rows = collided gas c (λ _ _. chi) (cell rows)

      -- the reversed rows after a collision under the other bit
      abbrev undone : List (List ℕ) → ℕ → ℕ → ℕ
      undone rows = collided gas c (λ _ _. not chi) (cell (reversed gas c chi rows))

      undone-is : (rows : List (List ℕ)) → IsLattice gas c rows → Same (undone rows) (λ x y. turned gas (cell rows x y))
      undone-is rows lattice x y inx iny = by (is_solid c x y) refl
        where
          by : (b : Bool) → is_solid c x y ≡ b → undone rows x y ≡ turned gas (cell rows x y)
          by true e =
              ap (λ (b : Bool). if b then 0 else gas.collide (cell (reversed gas c chi rows) x y) (not chi)) e
              ∙ sym turned-zero ∙ sym (ap (turned gas) (lattice.empty x y e))
          by false e =
              ap (λ (b : Bool). if b then 0 else gas.collide (cell (reversed gas c chi rows) x y) (not chi)) e
              ∙ ap (λ s. gas.collide s (not chi)) (cell-made c.width c.height (λ u v. turned gas (after rows u v)) x y inx iny
              ∙ ap (λ (b : Bool). turned gas (if b then 0 else gas.collide (cell rows x y) chi)) e)
              ∙ undone-turned (cell rows x y) (lattice.sets x y)

      -- from the reversed next lattice a generation leads to the reversed lattice
      next-reversed : (rows : List (List ℕ)) → IsLattice gas c rows →
          next gas c (λ _ _. not chi) (reversed gas c chi (next gas c (λ _ _. chi) rows)) ≡ reversed gas c chi rows
      next-reversed rows lattice = rows_of-same c.width c.height _ _ (λ x y inx iny. by x y inx iny (is_solid c x y) refl)
        where
          later : List (List ℕ)
          later = next gas c (λ _ _. chi) rows

          -- the next lattice, turned
          same : Same (undone later) (back c (after rows))
          same x y inx iny =
              undone-is later (IsLattice-next gas laws c (λ _ _. chi) rows) x y inx iny
              ∙ ap (turned gas) (cell-made c.width c.height (streamed gas c (after rows)) x y inx iny)

          by : (x y : ℕ) → x < c.width → y < c.height → (b : Bool) → is_solid c x y ≡ b →
              streamed gas c (undone later) x y ≡ turned gas (after rows x y)
          by x y inx iny true e =
              ap (λ (b : Bool). if b then 0 else set_of gas.dirs (arriving gas c (undone later) x y)) e
              ∙ sym turned-zero ∙ sym (ap (λ (b : Bool). turned gas (if b then 0 else gas.collide (cell rows x y) chi)) e)
          by x y inx iny false e =
              streamed-same (undone later) (back c (after rows)) same x y inx iny e ∙ streamed-back c (after rows) x y inx iny e

      -- reversed twice, under both bits, the rows are what they were
      reversed-twice : (rows : List (List ℕ)) → IsLattice gas c rows → reversed gas c (not chi) (reversed gas c chi rows) ≡ rows
      reversed-twice rows lattice =
          rows_of-same c.width c.height _ _ (λ x y inx iny. ap (turned gas) (undone-is rows lattice x y inx iny) ∙ turned-twice (cell rows x y) (lattice.sets x y))
          ∙ sym (rows_of-cell gas c rows lattice)

      run-reversed : (start later n : ℕ) (rows : List (List ℕ)) → IsLattice gas c rows →
          generation gas c (λ _ _ _. not chi) later (reversed gas c chi (generation gas c (λ _ _ _. chi) start rows n)) n ≡ reversed gas c chi rows
      run-reversed start later zero rows lattice = refl
      run-reversed start later (suc n) rows lattice =
          let before = generation gas c (λ _ _ _. chi) start rows n in
          let one : 1 + n ≡ suc n = omega arith in
          sym (generation-add gas c (λ _ _ _. not chi) later (reversed gas c chi (next gas c (λ _ _. chi) before)) 1 n
          ∙ ap (generation gas c (λ _ _ _. not chi) later (reversed gas c chi (next gas c (λ _ _. chi) before))) one)
          ∙ ap (λ r. generation gas c (λ _ _ _. not chi) (later + 1) r n)
          (next-reversed before (IsLattice-generation gas laws c (λ _ _ _. chi) start rows lattice n))
          ∙ run-reversed start (later + 1) n rows lattice

      pub run-back : (start later n : ℕ) (rows : List (List ℕ)) → IsLattice gas c rows →
          reversed gas c (not chi) (generation gas c (λ _ _ _. not chi) later (reversed gas c chi (generation gas c (λ _ _ _. chi) start rows n)) n) ≡ rows
      run-back start later n rows lattice = ap (reversed gas c (not chi)) (run-reversed start later n rows lattice) ∙ reversed-twice rows lattice
