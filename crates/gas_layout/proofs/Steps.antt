-- Rows that are written one after another, and channels row by row.
use Rattle.std.proofs.Common.{◌≡◌, ℕ, ◌+◌, ◌<◌, Bool, true, false, List, length, get_or, set, replicate, nat_lt, ap, sym, ◌∙◌, arith, if◌then◌else◌}
use Rattle.std.proofs.lemmas.Bool.Decides.{nat_tests}
use Rattle.gas_geom.specs.Channel.{free_channel}
use Rattle.gas_geom.specs.Lattice.{rows_of}
use Rattle.gas_layout.specs.Layout.{channel_of}
use Rattle.gas_layout.specs.Inner.Steps.{channel_before}
use Rattle.gas_layout.proofs.Grids.{rows_of-set_row, rows_of-same, rows_of-replicate, if_same}

module _ {A : Type 0} (w h : ℕ) (f : ℕ → ℕ → A) (d : A) where
  -- the values above row y, and d from there on
  abbrev above : ℕ → ℕ → ℕ → A
  above y u v = if nat_lt v y then f u v else d

  pub rows_above-next : (y : ℕ) (row : List A) → y < h → length row ≡ w → ((u : ℕ) → u < w → get_or row u d ≡ f u y)
      → set (rows_of w h (above y)) y row ≡ rows_of w h (above (y + 1))
  rows_above-next y row in_rows wide same =
      rows_of-set_row w h (above y) (above (y + 1)) y row d in_rows wide
      (λ u in_row. same u in_row ∙ sym (if_same (nat_lt y (y + 1)) true (f u y) d (grind (arith, nat_tests))))
      (λ u k other. if_same (nat_lt k y) (nat_lt k (y + 1)) (f u k) d (grind (arith, nat_tests, other)))

  pub rows_above-none : replicate h (replicate w d) ≡ rows_of w h (above 0)
  rows_above-none = rows_of-replicate w h (above 0) d (λ u k. sym (if_same (nat_lt k 0) false (f u k) d (grind (arith, nat_tests))))

  pub rows_above-all : rows_of w h (above h) ≡ rows_of w h f
  rows_above-all = rows_of-same w h (above h) f d (λ u k _ in_rows. if_same (nat_lt k h) true (f u k) d (grind (arith, nat_tests, in_rows)))

module _ (w h : ℕ) (solid : ℕ → ℕ → Bool) where
  pub channel_before-next : (y : ℕ) (row : List Bool) → y < h → length row ≡ w → ((x : ℕ) → x < w → get_or row x false ≡ solid x y)
      → record {
        width = w;
        height = h;
        solid = set (channel_before w h solid y).solid y row;
      } ≡ channel_before w h solid (y + 1)
  channel_before-next y row in_rows wide same =
      ap (λ rs. record { width = w; height = h; solid = rs }) (rows_above-next w h solid false y row in_rows wide same)

  pub channel_before-none : free_channel w h ≡ channel_before w h solid 0
  channel_before-none = ap (λ rs. record { width = w; height = h; solid = rs }) (rows_above-none w h solid false)

  pub channel_before-all : channel_before w h solid h ≡ channel_of w h solid
  channel_before-all = ap (λ rs. record { width = w; height = h; solid = rs }) (rows_above-all w h solid false)
