-- Lattices that pass through the kept rows.
use Rattle.std.proofs.Common.{◌≡◌, ℕ, zero, suc, ◌+◌, ◌-◌, ◌<◌, ◌≤◌, Bool, true, false, List, ap, sym, refl, subst, ◌∙◌, add-one, arith, if◌then◌else◌}
use Rattle.std.specs.Prelude.{nat_lt}
use Rattle.std.specs.Int.{from_bool}
use Rattle.std.proofs.lemmas.Bool.Decides.{nat_tests}
use Rattle.gas_geom.specs.Channel.{ChannelModel, is_solid}
use Rattle.gas_geom.specs.Gas.{Rules}
use Rattle.gas_geom.specs.Lattice.{cell, rows_of, collided, streamed, generation}
use Rattle.gas_layout.specs.Layout.{channel_of}
use Rattle.gas_layout.proofs.Grids.{value-rows_of, rows_of-same}
use Rattle.gas_export.specs.Planes.{solid_at}
use Rattle.gas_export.specs.Inner.{moved, passed}

-- a pass by bits that make the same collisions
pub passed-bits : (gas : Rules) (ch : ChannelModel) (f f' : ℕ → ℕ → Bool) (streams collides : Bool) (at : ℕ → ℕ → ℕ) (x y : ℕ)
    → (collides ≡ true → (s : ℕ) → gas.collide s (f x y) ≡ gas.collide s (f' x y)) → passed gas ch f streams collides at x y ≡ passed gas ch f' streams collides at x y
passed-bits gas ch f f' streams true at x y same = ap (λ (t : ℕ). if is_solid ch x y then 0 else t) (same refl (moved gas ch streams at x y))
passed-bits gas ch f f' streams false at x y same = refl

-- the generation by whose bits a lattice of generation n is collided next
abbrev pub next_hit : ℕ → Bool → ℕ
next_hit n hit = if hit then n + 1 else n

pub next_hit-is : (n : ℕ) (hit : Bool) → n + from_bool hit ≡ next_hit n hit
next_hit-is n true = refl
next_hit-is n false = omega arith

pub next_hit-lt : (n m : ℕ) (hit : Bool) → n < m → (hit ≡ true → n + 1 < m) → next_hit n hit < m
next_hit-lt n m true lt more = more refl
next_hit-lt n m false lt more = lt

pub not_hit : (n m : ℕ) (hit : Bool) → m ≤ n → (hit ≡ true → n + 1 < m) → hit ≡ false
not_hit n m true le more = absurd (omega (arith, le, more refl))
not_hit n m false le more = refl

pub not_last : (n m : ℕ) → nat_lt 2 (m - n) ≡ true → n + 1 + 1 < m
not_last n m far = grind (arith, nat_tests)

-- the lattices of a run, by the gas, the size, the solid cells, the bits, the first generation and its rows
module _ (gas : Rules) (w h : ℕ) (solid : List ℕ) (f : ℕ → ℕ → ℕ → Bool) (first : ℕ) (rows : List (List ℕ)) where
  abbrev pub channel : ChannelModel
  channel = channel_of w h (solid_at w solid)

  abbrev pub after : ℕ → List (List ℕ)
  after n = generation gas channel f first rows n

  -- that of generation n, and whether it is collided
  abbrev pub held : ℕ → Bool → ℕ → ℕ → ℕ
  held n hit x y = passed gas channel (f (first + n)) false hit (cell (after n)) x y

  abbrev pub hit_at : ℕ → ℕ → ℕ → ℕ
  hit_at n = collided gas channel (f (first + n)) (cell (after n))

  streamed-after : (n x y : ℕ) → x < w → y < h → streamed gas channel (hit_at n) x y ≡ cell (after (n + 1)) x y
  streamed-after n x y in_row in_rows = rw add-one (sym (value-rows_of w h (streamed gas channel (hit_at n)) x y 0 in_row in_rows))

  comes_in : (n : ℕ) (hit : Bool) (x y : ℕ) → x < w → y < h
      → passed gas channel (f (first + next_hit n hit)) hit true (held n hit) x y ≡ hit_at (next_hit n hit) x y
  comes_in n true x y in_row in_rows =
      ap (λ (s : ℕ). if is_solid channel x y then 0 else gas.collide s (f (first + (n + 1)) x y)) (streamed-after n x y in_row in_rows)
  comes_in n false x y in_row in_rows = refl

  goes-out : (n g : ℕ) (hit : Bool) (x y : ℕ) → g ≡ first + (n + 1) → x < w → y < h → passed gas channel (f g) true hit (hit_at n) x y ≡ held (n + 1) hit x y
  goes-out n g true x y e in_row in_rows = rw e
      (ap (λ (s : ℕ). if is_solid channel x y then 0 else gas.collide s (f (first + (n + 1)) x y)) (streamed-after n x y in_row in_rows))
  goes-out n g false x y e in_row in_rows = streamed-after n x y in_row in_rows

  -- a sweep that begins with the collision of generation g
  pub one_sweep : (n g : ℕ) (hit collides : Bool) (now : ℕ → ℕ → ℕ) → g ≡ next_hit n hit
      → ((between : ℕ → ℕ → ℕ) → ((x y : ℕ) → x < w → y < h → passed gas channel (f (first + g)) hit true (held n hit) x y ≡ between x y)
      → (x y : ℕ) → x < w → y < h → now x y ≡ passed gas channel (f (first + g + 1)) true collides between x y)
      → (x y : ℕ) → x < w → y < h → now x y ≡ held (g + 1) collides x y
  one_sweep n g hit collides now e swept x y in_row in_rows =
      swept (hit_at g) (λ u k u_in k_in. subst (λ j. passed gas channel (f (first + j)) hit true (held n hit) u k ≡ hit_at j u k) (sym e) (comes_in n hit u k u_in k_in)) x y in_row in_rows
      ∙ goes-out g (first + g + 1) collides x y (omega arith) in_row in_rows

-- rows are made of their cells
cells-made : (w h : ℕ) (at : ℕ → ℕ → ℕ) → rows_of w h (cell (rows_of w h at)) ≡ rows_of w h at
cells-made w h at = rows_of-same w h (cell (rows_of w h at)) at 0 (λ x y in_row in_rows. value-rows_of w h at x y 0 in_row in_rows)

pub after-made : (gas : Rules) (w h : ℕ) (solid : List ℕ) (f : ℕ → ℕ → ℕ → Bool) (first n : ℕ) (at : ℕ → ℕ → ℕ)
    → rows_of w h (cell (after gas w h solid f first (rows_of w h at) n)) ≡ after gas w h solid f first (rows_of w h at) n
after-made gas w h solid f first zero at = cells-made w h at
after-made gas w h solid f first (suc n) at = cells-made w h (streamed gas (channel_of w h (solid_at w solid)) (hit_at gas w h solid f first (rows_of w h at) n))
