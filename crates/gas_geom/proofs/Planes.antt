-- Collisions of words of cells. What the code does at one cell is a function on truth values, of the directions that the cell
-- holds and its random bit. What it gives for each set of directions is found by trying them all.
use Rattle.std.proofs.Common.{◌≡◌, ℕ, zero, suc, ◌^◌, ◌<◌, Bool, true, false, ◌&&◌, List, [], ◌∷◌, get_or, refl, sym, ap, ap₂, ◌∙◌, arith}
use Rattle.std.specs.Prelude.{◌==◌}
use Rattle.std.proofs.lemmas.Bool.{and_parts, eqb-true}
use Rattle.gas_geom.specs.Gas.{Rules, holds}
use Rattle.gas_geom.specs.Lattice.{set_of}
use Rattle.gas_geom.specs.Laws.Trials.{holds_below, each_below}
use Rattle.gas_geom.proofs.Holds.{holds-set_of, set_of-lt}

-- the first n of the truth values of f
abbrev pub first : ℕ → (ℕ → Bool) → List Bool
first zero f = []
first (suc n) f = f 0 ∷ first n (λ i. f (suc i))

-- f below n, and false from there
abbrev pub cut : ℕ → (ℕ → Bool) → ℕ → Bool
cut n f i = get_or (first n f) i false

-- whether the code collides this set as the gas does
abbrev pub collides : Rules → ((ℕ → Bool) → Bool → List Bool) → Bool → ℕ → Bool
collides gas code chi s = set_of gas.dirs (λ i. get_or (code (cut gas.dirs (holds s)) chi) i false) == gas.collide s chi

-- whether it does so for each set and each random bit
abbrev pub collide_all : Rules → ((ℕ → Bool) → Bool → List Bool) → Bool
collide_all gas code =
    holds_below (collides gas code true) (2 ^ gas.dirs) && holds_below (collides gas code false) (2 ^ gas.dirs)

tried : (gas : Rules) (code : (ℕ → Bool) → Bool → List Bool) → collide_all gas code ≡ true → (chi : Bool) (s : ℕ) → s < 2 ^ gas.dirs →
    set_of gas.dirs (λ i. get_or (code (cut gas.dirs (holds s)) chi) i false) ≡ gas.collide s chi
tried gas code all true s lt = eqb-true _ _ (each_below (collides gas code true) (2 ^ gas.dirs) s (and_parts _ _ all).0 lt)
tried gas code all false s lt = eqb-true _ _ (each_below (collides gas code false) (2 ^ gas.dirs) s (and_parts _ _ all).1 lt)

first-same : (n : ℕ) (f h : ℕ → Bool) → ((i : ℕ) → i < n → f i ≡ h i) → first n f ≡ first n h
first-same zero f h same = refl
first-same (suc n) f h same =
    ap₂ (λ b bs. b ∷ bs) (same 0 (omega arith)) (first-same n (λ i. f (suc i)) (λ i. h (suc i)) (λ i lt. same (suc i) (omega arith)))

-- what a word holds after the code at a cell that holds the directions of f
pub collided : (gas : Rules) (code : (ℕ → Bool) → Bool → List Bool) → collide_all gas code ≡ true → (f : ℕ → Bool) (chi : Bool) (after : List Bool) →
    after ≡ code (cut gas.dirs f) chi → set_of gas.dirs (λ i. get_or after i false) ≡ gas.collide (set_of gas.dirs f) chi
collided gas code all f chi after same =
    let s = set_of gas.dirs f in
    ap (λ bs. set_of gas.dirs (λ i. get_or bs i false))
    (same ∙ ap (λ bs. code (λ k. get_or bs k false) chi) (first-same gas.dirs f (holds s) (λ i lt. sym (holds-set_of gas.dirs f i lt))))
    ∙ tried gas code all chi s (set_of-lt gas.dirs f)
