-- Sums over the numbers below n, block by block, and over a list.
use Rattle.std.proofs.Common.{◌≡◌, ℕ, zero, suc, ◌+◌, ◌*◌, ◌≤◌, List, length, get_or, take, ap, ◌∙◌, sym, refl, arith}
use Rattle.std.specs.Prelude.{sum_by}
use Rattle.std.proofs.lemmas.List.{take_all}
use Rattle.std.proofs.lemmas.List.Sums.{sum_by_more}
use Rattle.gas_geom.proofs.Sums.{sum_below}

-- the terms below n, and those from n on
pub sum_below-split : (n m : ℕ) (f : ℕ → ℕ) → sum_below (n + m) f ≡ sum_below n f + sum_below m (λ k. f (n + k))
sum_below-split n zero f = let e : n + 0 ≡ n = omega arith in ap (λ k. sum_below k f) e ∙ omega arith
sum_below-split n (suc m) f =
    let e : n + suc m ≡ suc (n + m) = omega arith in
    ap (λ k. sum_below k f) e ∙ omega (arith, sum_below-split n m f)

-- d blocks of n terms
pub sum_below-blocks : (d n : ℕ) (f : ℕ → ℕ) → sum_below (d * n) f ≡ sum_below d (λ i. sum_below n (λ j. f (i * n + j)))
sum_below-blocks zero n f = let e : 0 * n ≡ 0 = omega arith in ap (λ k. sum_below k f) e
sum_below-blocks (suc d) n f =
    let e : suc d * n ≡ d * n + n = omega arith in
    ap (λ k. sum_below k f) e ∙ sum_below-split (d * n) n f
    ∙ ap (λ s. s + sum_below n (λ j. f (d * n + j))) (sum_below-blocks d n f)

-- the sum over a list
sum_by-take : (g : ℕ → ℕ) (xs : List ℕ) (n : ℕ) → n ≤ length xs → sum_by g (take n xs) ≡ sum_below n (λ k. g (get_or xs k 0))
sum_by-take g xs zero h = refl
sum_by-take g xs (suc n) h =
    let e : suc n ≡ n + 1 = omega arith in
    ap (λ k. sum_by g (take k xs)) e ∙ sum_by_more g xs n 0 (omega arith)
    ∙ ap (λ s. s + g (get_or xs n 0)) (sum_by-take g xs n (omega arith))

pub sum_by-below : (g : ℕ → ℕ) (xs : List ℕ) → sum_by g xs ≡ sum_below (length xs) (λ k. g (get_or xs k 0))
sum_by-below g xs = ap (sum_by g) (sym (take_all (length xs) xs (omega arith))) ∙ sum_by-take g xs (length xs) (omega arith)
