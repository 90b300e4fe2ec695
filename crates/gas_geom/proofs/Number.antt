-- The number law. The particles of a lattice are a sum over its places: a column, a row and a direction each. A collision
-- keeps those of each cell. Streaming only moves them: what a place holds afterwards stood at another place before, and the
-- map between the places is two involutions, neither of which changes the sum.
use Rattle.std.proofs.Common.{◌≡◌, ℕ, ◌<◌, ◌^◌, Bool, true, false, if◌then◌else◌, List, [], get_or, ap, ◌∙◌, sym, refl}
use Rattle.std.specs.Prelude.{sum_by}
use Rattle.std.specs.Int.{bit_at}
use Rattle.std.proofs.lemmas.List.FromFn.{fill_by_all}
use Rattle.gas_geom.specs.Gas.{Rules, IsGas, particles}
use Rattle.gas_geom.specs.Channel.{ChannelModel, is_solid}
use Rattle.gas_geom.specs.Lattice.{cell, row_of, rows_of, IsLattice, collided, streamed, next, count}
use Rattle.gas_geom.proofs.Sums.{sum_below, sum_below-cong, sum_by-row}
use Rattle.gas_geom.proofs.Held.{particles-bits}
use Rattle.gas_geom.proofs.Places.{total}
use Rattle.gas_geom.proofs.Links.{held, total-streamed}

-- the particles of rows that are made cell by cell
count-rows_of : (gas : Rules) (w h : ℕ) (at : ℕ → ℕ → ℕ) →
    count gas (rows_of w h at) ≡ total w h gas.dirs (held at)
count-rows_of gas w h at =
    sum_by-row (λ row. sum_by (particles gas) row) (λ y. row_of w (λ x. at x y)) h
    ∙ sum_below-cong h _ _ (λ y _.
    sum_by-row (particles gas) (λ x. at x y) w ∙ sum_below-cong w _ _ (λ x _. particles-bits gas (at x y)))

-- a lattice's rows are made of its cells
pub rows_of-cell : (gas : Rules) (c : ChannelModel) (rows : List (List ℕ)) → IsLattice gas c rows → rows ≡ rows_of c.width c.height (cell rows)
rows_of-cell gas c rows lattice =
    fill_by_all (λ y. row_of c.width (λ x. cell rows x y)) rows c.height [] lattice.high
    (λ y h. fill_by_all (λ x. cell rows x y) (get_or rows y []) c.width 0 (lattice.wide y h) (λ x _. refl))

-- cells of as many particles each
total-bits : (w h d : ℕ) (at other : ℕ → ℕ → ℕ) →
    ((x y : ℕ) → sum_below d (λ i. bit_at (at x y) i) ≡ sum_below d (λ i. bit_at (other x y) i)) → total w h d (held at) ≡ total w h d (held other)
total-bits w h d at other same = sum_below-cong h _ _ (λ y _. sum_below-cong w _ _ (λ x _. same x y))

-- a collision keeps the particles of each cell
bits-collided : (gas : Rules) → IsGas gas → (c : ChannelModel) (chi : ℕ → ℕ → Bool) (at : ℕ → ℕ → ℕ) →
    ((x y : ℕ) → at x y < 2 ^ gas.dirs) → ((x y : ℕ) → is_solid c x y ≡ true → at x y ≡ 0) → (x y : ℕ) →
    sum_below gas.dirs (λ i. bit_at (collided gas c chi at x y) i) ≡ sum_below gas.dirs (λ i. bit_at (at x y) i)
bits-collided gas laws c chi at sets empty x y =
    sym (particles-bits gas (collided gas c chi at x y)) ∙ by (is_solid c x y) refl ∙ particles-bits gas (at x y)
  where
    by : (b : Bool) → is_solid c x y ≡ b → particles gas (if b then 0 else gas.collide (at x y) (chi x y)) ≡ particles gas (at x y)
    by true e = ap (particles gas) (sym (empty x y e))
    by false e = laws.collide_keeps (at x y) (chi x y) (sets x y)

collided-empty : (gas : Rules) (c : ChannelModel) (chi : ℕ → ℕ → Bool) (at : ℕ → ℕ → ℕ) (x y : ℕ) →
    is_solid c x y ≡ true → collided gas c chi at x y ≡ 0
collided-empty gas c chi at x y e = ap (λ (b : Bool). if b then 0 else gas.collide (at x y) (chi x y)) e

-- the next lattice has as many particles
pub count-next : (gas : Rules) → IsGas gas → (c : ChannelModel) (chi : ℕ → ℕ → Bool) (rows : List (List ℕ)) → IsLattice gas c rows →
    count gas (next gas c chi rows) ≡ count gas rows
count-next gas laws c chi rows lattice =
    count-rows_of gas c.width c.height (streamed gas c after)
    ∙ total-streamed gas laws c after (collided-empty gas c chi (cell rows))
    ∙ total-bits c.width c.height gas.dirs after (cell rows) (bits-collided gas laws c chi (cell rows) lattice.sets lattice.empty)
    ∙ sym (count-rows_of gas c.width c.height (cell rows))
    ∙ ap (count gas) (sym (rows_of-cell gas c rows lattice))
  where
    after : ℕ → ℕ → ℕ
    after = collided gas c chi (cell rows)
