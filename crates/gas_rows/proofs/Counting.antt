-- The particles of a row are the ones of its words.
use Rattle.std.proofs.Common.{◌≡◌, ℕ, ◌+◌, ◌-◌, ◌*◌, ◌^◌, ◌<◌, List, length, get_or, sym, ap, ap₂, ◌∙◌, arith, add-zero}
use Rattle.std.specs.Prelude.{sum_by, count_ones}
use Rattle.std.specs.Int.{bit_at}
use Rattle.gas_bits.specs.Words.{words_in}
use Rattle.gas_bits.specs.Planes.{has}
use Rattle.gas_rows.specs.Inner.Planes.{ArePlanes}
use Rattle.gas_rows.specs.Planes.{cells_of}
use Rattle.gas_rows.proofs.Sums.{sum_below-split, sum_below-blocks, sum_by-below}
use Rattle.gas_rows.proofs.Rows.{wide, held}
use Rattle.gas_bits.proofs.Cells.{has_word}
use Rattle.gas_geom.proofs.Sums.{sum_below, sum_below-cong, sum_below-zero, sum_below-swap}
use Rattle.gas_geom.proofs.Held.{held_below, length-held}
use Rattle.gas_bits.proofs.Counting.{one, one-bit, ones-bits}

-- ---- the ones of a row's words
module _ (d width : ℕ) (words row : List ℕ) (inside : ArePlanes d width words) (view : cells_of d width words ≡ row)
    (fits : (k : ℕ) → get_or words k 0 < 2 ^ 64) where
  -- one direction
  plane : (i : ℕ) → i < d →
      sum_below (words_in width) (λ j. sum_below 64 (λ b. bit_at (get_or words (i * words_in width + j) 0) b))
      ≡ sum_below width (λ x. bit_at (get_or row x 0) i)
  plane i hi =
      sum_below-cong (words_in width) _ (λ j. sum_below 64 (λ b. one (has words (words_in width) i (j * 64 + b)))) (λ j hj.
      sum_below-cong 64 _ (λ b. one (has words (words_in width) i (j * 64 + b))) (λ b hb.
      let e : 64 * j + b ≡ j * 64 + b = omega arith in
      sym (one-bit (get_or words (i * words_in width + j) 0) b)
      ∙ ap one (sym (has_word words (words_in width) i j b hb) ∙ ap (has words (words_in width) i) e)))
      ∙ sym (sum_below-blocks (words_in width) 64 (λ x. one (has words (words_in width) i x)))
      ∙ ap (λ k. sum_below k (λ x. one (has words (words_in width) i x))) long
      ∙ sum_below-split width (words_in width * 64 - width) (λ x. one (has words (words_in width) i x))
      ∙ ap₂ (λ a b. a + b)
      (sum_below-cong width _ (λ x. bit_at (get_or row x 0) i) (λ x hx.
      ap one (held d width words row inside view i x hi (omega arith)) ∙ one-bit (get_or row x 0) i))
      (sum_below-cong (words_in width * 64 - width) _ (λ _. 0) (λ k hk. ap one (inside.clear i (width + k) hi (omega arith) (omega arith)))
      ∙ sum_below-zero (words_in width * 64 - width))
      ∙ add-zero (sum_below width (λ x. bit_at (get_or row x 0) i))
    where
      long : words_in width * 64 ≡ width + (words_in width * 64 - width)
      long = omega arith

  pub particles-ones : sum_below (length words) (λ k. count_ones (get_or words k 0))
      ≡ sum_by (λ s. length (held_below d s)) row
  particles-ones =
      ap (λ m. sum_below m (λ k. count_ones (get_or words k 0))) inside.long
      ∙ sum_below-cong (d * words_in width) _ _ (λ k _. ones-bits 64 (get_or words k 0) (fits k))
      ∙ sum_below-blocks d (words_in width) (λ k. sum_below 64 (λ b. bit_at (get_or words k 0) b))
      ∙ sum_below-cong d _ (λ i. sum_below width (λ x. bit_at (get_or row x 0) i)) (λ i hi. plane i hi)
      ∙ sum_below-swap d width (λ i x. bit_at (get_or row x 0) i)
      ∙ ap (λ m. sum_below m (λ x. sum_below d (λ i. bit_at (get_or row x 0) i))) (sym (wide d width words row inside view))
      ∙ sum_below-cong (length row) (λ x. sum_below d (λ i. bit_at (get_or row x 0) i)) (λ x. length (held_below d (get_or row x 0))) (λ x _. sym (length-held d (get_or row x 0)))
      ∙ sym (sum_by-below (λ s. length (held_below d s)) row)
