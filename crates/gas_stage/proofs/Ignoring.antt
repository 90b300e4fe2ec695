-- A gas that ignores its random bits runs alike under all of them.
use Rattle.std.proofs.Common.{◌≡◌, ℕ, zero, suc, ◌+◌, Bool, if◌then◌else◌, List, ap, ◌∙◌, refl}
use Rattle.gas_geom.specs.Gas.{Rules}
use Rattle.gas_geom.specs.Channel.{ChannelModel, is_solid}
use Rattle.gas_geom.specs.Lattice.{collided, streamed, rows_of, cell, next, generation}
use Rattle.gas_geom.specs.Backwards.{reversed, turned}

module _ (gas : Rules) (ignores : (s : ℕ) (chi chi' : Bool) → gas.collide s chi ≡ gas.collide s chi') (c : ChannelModel) where
  collided-ignoring : (chi chi' : ℕ → ℕ → Bool) (at : ℕ → ℕ → ℕ) → collided gas c chi at ≡ collided gas c chi' at
  collided-ignoring chi chi' at = λ t x y. if is_solid c x y then 0 else ignores (at x y) (chi x y) (chi' x y) t

  next-ignoring : (chi chi' : ℕ → ℕ → Bool) (rows : List (List ℕ)) → next gas c chi rows ≡ next gas c chi' rows
  next-ignoring chi chi' rows =
      ap (λ (at : ℕ → ℕ → ℕ). rows_of c.width c.height (streamed gas c at)) (collided-ignoring chi chi' (cell rows))

  pub generation-ignoring : (chi chi' : ℕ → ℕ → ℕ → Bool) (start : ℕ) (rows : List (List ℕ)) (n : ℕ) →
      generation gas c chi start rows n ≡ generation gas c chi' start rows n
  generation-ignoring chi chi' start rows zero = refl
  generation-ignoring chi chi' start rows (suc n) =
      next-ignoring (chi (start + n)) (chi' (start + n)) (generation gas c chi start rows n)
      ∙ ap (next gas c (chi' (start + n))) (generation-ignoring chi chi' start rows n)

  pub reversed-ignoring : (chi chi' : Bool) (rows : List (List ℕ)) → reversed gas c chi rows ≡ reversed gas c chi' rows
  reversed-ignoring chi chi' rows =
      ap (λ (at : ℕ → ℕ → ℕ). rows_of c.width c.height (λ x y. turned gas (at x y))) (collided-ignoring (λ _ _. chi) (λ _ _. chi') (cell rows))
