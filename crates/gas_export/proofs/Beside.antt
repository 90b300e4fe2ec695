-- The rows about a row, and their solid cells, as streaming reads them.
use Rattle.std.proofs.Common.{◌≡◌, ◌<◌, ℕ, ◌+◌, ◌-◌, ◌*◌, ap, sym, subst, ◌∙◌, List, false, arith, true, Some, None, inl, inr}
use Rattle.gas_geom.specs.Channel.{is_solid}
use Rattle.gas_bits.specs.Words.{words_in, bit}
use Rattle.gas_bits.specs.Planes.{state}
use Rattle.gas_rows.specs.Planes.{cells_of}
use Rattle.gas_rows.specs.Streaming.{AreRowsAbout, AreWordsAbout}
use Rattle.gas_rows.specs.declared.stream.Neighbourhood.{Neighbourhood}
use Rattle.gas_layout.specs.Layout.{channel_of}
use Rattle.gas_layout.proofs.Grids.{value-rows_of}
use Rattle.gas_export.specs.Planes.{row_words, state_at, solid_at}
use Rattle.std.specs.Option.{option_map_or}
use Rattle.std.proofs.lemmas.Bool.{cases_eq}
use Rattle.std.proofs.lemmas.Bool.Decides.{nat_tests}
use Rattle.gas_geom.specs.Moves.{row_after}
use Rattle.gas_geom.specs.declared.moves.Move.TheVariants.{Back, On}
use Rattle.gas_rows.proofs.Cells.{get_or-cells}
use Rattle.gas_rows.specs.Beside.{is_solid_beside}

-- the solid cells of the row above row y, of it, and of the row below it
solid-above : (w h y x : ℕ) (solid wall above : List ℕ) → y < h → ((x : ℕ) → x < w → bit wall x ≡ true)
    → (0 < y → above ≡ row_words (words_in w) solid (y - 1)) → (y ≡ 0 → above ≡ wall) → x < w
    → bit above x ≡ is_solid_beside (channel_of w h (solid_at w solid)) x y Back
solid-above w h y x solid wall above in_rows walled up top lt = elim (cases_eq y 0) [
  | inl e ↦ ap (λ ws. bit ws x) (top e) ∙ walled x lt ∙ sym (ap (λ o. option_map_or (is_solid (channel_of w h (solid_at w solid)) x) o true) (let none : row_after h y Back ≡ None = grind (arith, nat_tests) in none))
  | inr ne ↦ ap (λ ws. bit ws x) (up (omega (arith, ne))) ∙ sym (value-rows_of w h (solid_at w solid) x (y - 1) false lt (omega (arith, in_rows)))
      ∙ sym (ap (λ o. option_map_or (is_solid (channel_of w h (solid_at w solid)) x) o true) (let some : row_after h y Back ≡ Some (y - 1) = grind (arith, nat_tests) in some))
]

solid-below : (w h y x : ℕ) (solid wall below : List ℕ) → y < h → ((x : ℕ) → x < w → bit wall x ≡ true)
    → (y + 1 < h → below ≡ row_words (words_in w) solid (y + 1)) → (y + 1 ≡ h → below ≡ wall) → x < w
    → bit below x ≡ is_solid_beside (channel_of w h (solid_at w solid)) x y On
solid-below w h y x solid wall below in_rows walled down bottom lt = elim (cases_eq (y + 1) h) [
  | inl e ↦ ap (λ ws. bit ws x) (bottom e) ∙ walled x lt ∙ sym (ap (λ o. option_map_or (is_solid (channel_of w h (solid_at w solid)) x) o true) (let none : row_after h y On ≡ None = grind (arith, nat_tests) in none))
  | inr ne ↦ ap (λ ws. bit ws x) (down (omega (arith, ne, in_rows))) ∙ sym (value-rows_of w h (solid_at w solid) x (y + 1) false lt (omega (arith, in_rows, ne)))
      ∙ sym (ap (λ o. option_map_or (is_solid (channel_of w h (solid_at w solid)) x) o true) (let some : row_after h y On ≡ Some (y + 1) = grind (arith, nat_tests) in some))
]

-- a neighbourhood of these rows
pub words-about : (dirs w h : ℕ) (solid wall : List ℕ) (at : ℕ → ℕ → ℕ) (n : Neighbourhood) → n.width ≡ w → n.y < h → ((x : ℕ) → x < w → bit wall x ≡ true)
    → (0 < n.y → n.solid_above.now ≡ row_words (words_in w) solid (n.y - 1)) → (n.y ≡ 0 → n.solid_above.now ≡ wall)
    → n.solid_middle.now ≡ row_words (words_in w) solid n.y
    → (n.y + 1 < h → n.solid_below.now ≡ row_words (words_in w) solid (n.y + 1)) → (n.y + 1 ≡ h → n.solid_below.now ≡ wall)
    → AreRowsAbout (channel_of w h (solid_at w solid)) at n.y (cells_of dirs w n.above.now) (cells_of dirs w n.middle.now) (cells_of dirs w n.below.now)
    → AreWordsAbout dirs (channel_of w h (solid_at w solid)) at n
words-about dirs w h solid wall at n width in_rows walled up top here down bottom rows = record {
  wide = width;
  rows = subst (λ (v : ℕ). AreRowsAbout (channel_of w h (solid_at w solid)) at n.y (cells_of dirs v n.above.now) (cells_of dirs v n.middle.now) (cells_of dirs v n.below.now)) (sym width) rows;
  solid_above = λ x lt. solid-above w h n.y x solid wall n.solid_above.now in_rows walled up top lt;
  solid_middle = λ x lt. ap (λ ws. bit ws x) here ∙ sym (value-rows_of w h (solid_at w solid) x n.y false lt in_rows);
  solid_below = λ x lt. solid-below w h n.y x solid wall n.solid_below.now in_rows walled down bottom lt;
}

-- rows a, b and c of these words are those about row y
pub rows-about : (dirs w h y a b c : ℕ) (solid words up mid down : List ℕ) (at : ℕ → ℕ → ℕ)
    → up ≡ row_words (dirs * words_in w) words a → mid ≡ row_words (dirs * words_in w) words b → down ≡ row_words (dirs * words_in w) words c
    → (0 < y → (x : ℕ) → x < w → state_at dirs w words x a ≡ at x (y - 1)) → ((x : ℕ) → x < w → state_at dirs w words x b ≡ at x y)
    → (y + 1 < h → (x : ℕ) → x < w → state_at dirs w words x c ≡ at x (y + 1))
    → AreRowsAbout (channel_of w h (solid_at w solid)) at y (cells_of dirs w up) (cells_of dirs w mid) (cells_of dirs w down)
rows-about dirs w h y a b c solid words up mid down at up_is mid_is down_is above here below = record {
  up_is = λ some x lt _. get_or-cells dirs w up x lt ∙ ap (λ ws. state ws (words_in w) dirs x) up_is ∙ above some x lt;
  mid_is = λ x lt _. get_or-cells dirs w mid x lt ∙ ap (λ ws. state ws (words_in w) dirs x) mid_is ∙ here x lt;
  down_is = λ more x lt _. get_or-cells dirs w down x lt ∙ ap (λ ws. state ws (words_in w) dirs x) down_is ∙ below more x lt;
}
