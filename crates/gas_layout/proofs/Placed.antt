-- A placement, and the state of its cell.
use Rattle.std.proofs.Common.{◌≡◌, ◌≢◌, ◌⊎◌, inl, inr, ℕ, Bool, true, false, ◌&&◌, ℤ, pos, ap, ap₂, sym, ◌∙◌, refl}
use mathlib.Core.Bool.{and-false}
use Rattle.std.specs.Prelude.{nat_abs}
use Rattle.std.specs.Ordering.{int_eq}
use Rattle.std.proofs.lemmas.Bool.Decides.{Decides-int_eq}
use Rattle.gas_layout.specs.declared.area.Placement.{Placement}

pub natural-pos : (n : ℕ) (z : ℤ) → pos n ≡ z → n ≡ nat_abs z
natural-pos n z e = ap nat_abs e

same-int_eq : (z : ℤ) (n : ℕ) → z ≡ pos n → int_eq z (pos n) ≡ true
same-int_eq z n e = (Decides-int_eq z (pos n)).1 e

other-int_eq : (z : ℤ) (n m : ℕ) → z ≡ pos n → m ≢ n → int_eq z (pos m) ≡ false
other-int_eq z n m e ne = by (int_eq z (pos m)) refl
  where
    by : (b : Bool) → int_eq z (pos m) ≡ b → int_eq z (pos m) ≡ false
    by true is = absurd (ne (sym (ap nat_abs ((Decides-int_eq z (pos m)).0 is)) ∙ ap nat_abs e))
    by false is = is

-- whether the cell of a placement is (x, y)
abbrev pub is_at : Placement → ℕ → ℕ → Bool
is_at p x y = int_eq p.x (pos x) && int_eq p.y (pos y)

pub is_at-here : (p : Placement) (x y : ℕ) → p.x ≡ pos x → p.y ≡ pos y → is_at p x y ≡ true
is_at-here p x y ex ey = ap₂ (λ (a : Bool) (b : Bool). a && b) (same-int_eq p.x x ex) (same-int_eq p.y y ey)

pub is_at-other : (p : Placement) (x y u k : ℕ) → p.x ≡ pos x → p.y ≡ pos y → (u ≢ x) ⊎ (k ≢ y) → is_at p u k ≡ false
is_at-other p x y u k ex ey (inl ne) = ap (λ (b : Bool). b && int_eq p.y (pos k)) (other-int_eq p.x x u ex ne)
is_at-other p x y u k ex ey (inr ne) = ap (λ (b : Bool). int_eq p.x (pos u) && b) (other-int_eq p.y y k ey ne) ∙ and-false (int_eq p.x (pos u))
