-- A rectangle by its strip, and the drawing that has it.
use Rattle.std.proofs.Common.{◌≡◌, ℕ, ◌+◌, ◌<◌, Bool, true, false, ◌||◌, ◌&&◌, List, [], ◌∷◌, ◌++◌, length, get_or, nat_lt, pos, ap, ap₂, sym, ◌∙◌, arith, subst}
use mathlib.Core.Bool.{or-false}
use Rattle.std.proofs.lemmas.Bool.Decides.{nat_tests}
use Rattle.std.proofs.lemmas.Int.{ints}
use Rattle.std.proofs.lemmas.List.Folds.{list_any-append}
use Rattle.gas_geom.specs.Channel.{ChannelModel}
use Rattle.gas_layout.specs.declared.area.Rectangle.{Rectangle}
use Rattle.gas_layout.specs.declared.drawing.Strip.{Strip}
use Rattle.gas_layout.specs.Layout.{covers, is_covered, fits, channel_of, drawn}
use Rattle.gas_layout.specs.Inner.Strips.{IsInside}
use Rattle.gas_layout.specs.Inner.Strips.{strip_of, first_row, reaches, is_reached, is_drawn, IsStrip, AreStrips}
use Rattle.gas_layout.proofs.Grids.{rows_of-same, value-rows_of}
use Rattle.gas_layout.proofs.Strips.{with_strip, AreStrips-more, is_reached-more}

-- a rectangle by its strip
IsInside-fits : (w h : ℕ) (r : Rectangle) → fits w h r ≡ true → IsInside w h r
IsInside-fits w h r held = record {
  left = grind (arith, ints, held);
  wide = grind (arith, ints, held);
  right = grind (arith, ints, held);
  top = grind (arith, ints, held);
  high = grind (arith, ints, held);
  bottom = grind (arith, ints, held);
}

pub IsStrip-inside : (w h : ℕ) (r : Rectangle) → IsInside w h r → IsStrip w (strip_of r)
IsStrip-inside w h r inside = record {
  ordered = omega (arith, ints, inside.left, inside.wide);
  within = omega (arith, ints, inside.left, inside.wide, inside.right);
}

covers-strip : (w h : ℕ) (r : Rectangle) (x y : ℕ) → IsInside w h r
    → (nat_lt (first_row r) (y + 1) && reaches (strip_of r) x y) ≡ covers r (pos x) (pos y)
covers-strip w h r x y inside = grind (arith, ints, nat_tests, inside.left, inside.wide, inside.top, inside.high)

-- one rectangle more: the strips of the rows, and the channel that they make
module _ (w h : ℕ) (rows : List (List Strip)) (r : Rectangle) (drawing : ChannelModel) (top : ℕ) (strip : Strip)
    (is : channel_of w h (is_drawn rows) ≡ drawing) (fitting : fits drawing.width drawing.height r ≡ true) (are : AreStrips w rows)
    (first : top ≡ first_row r) (of : strip ≡ strip_of r) (within : top < length rows) where
  inside : IsInside w h r
  inside = IsInside-fits w h r (ap₂ (λ (a b : ℕ). fits a b r) (ap (λ (c : ChannelModel). c.width) is) (ap (λ (c : ChannelModel). c.height) is) ∙ fitting)

  pub AreStrips-added : AreStrips w (with_strip rows top strip)
  AreStrips-added = AreStrips-more rows top strip within w are (subst (λ s. IsStrip w s) (sym of) (IsStrip-inside w h r inside))

  reached : (n x y : ℕ) → is_reached (with_strip rows top strip) n x y ≡ (is_reached rows n x y || (nat_lt (first_row r) n && reaches (strip_of r) x y))
  reached n x y =
      is_reached-more rows top strip within n x y
      ∙ ap₂ (λ (t : ℕ) (s : Strip). is_reached rows n x y || (nat_lt t n && reaches s x y)) first of

  pub drawn-added : (w' h' : ℕ) (rs : List Rectangle) → drawing ≡ drawn w' h' rs
      → channel_of w h (is_drawn (with_strip rows top strip)) ≡ drawn w' h' (rs ++ r ∷ [])
  drawn-added w' h' rs e =
      ap (λ gs. record { width = w; height = h; solid = gs })
      (rows_of-same w h (is_drawn (with_strip rows top strip)) (λ x y. is_covered (rs ++ r ∷ []) (pos x) (pos y)) false cells)
      ∙ ap₂ (λ (a b : ℕ). drawn a b (rs ++ r ∷ [])) wide high
    where
      wide : w ≡ w'
      wide = ap (λ (c : ChannelModel). c.width) (is ∙ e)

      high : h ≡ h'
      high = ap (λ (c : ChannelModel). c.height) (is ∙ e)

      before : (x y : ℕ) → x < w → y < h → is_drawn rows x y ≡ is_covered rs (pos x) (pos y)
      before x y in_columns in_rows =
          sym (value-rows_of w h (is_drawn rows) x y false in_columns in_rows)
          ∙ ap (λ (c : ChannelModel). get_or (get_or c.solid y []) x false) (is ∙ e)
          ∙ value-rows_of w' h' (λ u v. is_covered rs (pos u) (pos v)) x y false (omega (arith, in_columns, wide)) (omega (arith, in_rows, high))

      cells : (x y : ℕ) → x < w → y < h → is_drawn (with_strip rows top strip) x y ≡ is_covered (rs ++ r ∷ []) (pos x) (pos y)
      cells x y in_columns in_rows =
          reached (y + 1) x y
          ∙ ap₂ (λ (a b : Bool). a || b) (before x y in_columns in_rows) (covers-strip w h r x y inside)
          ∙ sym (list_any-append (λ s. covers s (pos x) (pos y)) rs (r ∷ [])
          ∙ ap (λ (b : Bool). is_covered rs (pos x) (pos y) || b) (or-false (covers r (pos x) (pos y))))
