-- What comes to a cell in a direction. From a fluid neighbour it is the neighbour's particle. If the neighbour is solid or the
-- wall, it is the cell's own particle, sent back.
use Rattle.std.proofs.Common.{◌≡◌, ℕ, Bool, if◌then◌else◌, Option, Some, ap, ◌∙◌}
use Rattle.std.specs.Option.{option_map_or}
use Rattle.gas_geom.specs.Gas.{Rules, neighbour_of, holds}
use Rattle.gas_geom.specs.Channel.{ChannelModel, is_solid}
use Rattle.gas_geom.specs.Lattice.{arriving}

-- the neighbour that a particle going in direction i comes from
abbrev pub behind : Rules → ChannelModel → ℕ → ℕ → ℕ → Option (ℕ × ℕ)
behind gas c x y i = neighbour_of gas c.width c.height x y (gas.opposite i)

module _ (gas : Rules) (c : ChannelModel) (at : ℕ → ℕ → ℕ) (x y i : ℕ) where
  -- the cell's own particle, which goes towards that neighbour
  abbrev pub sent_back : Bool
  sent_back = holds (at x y) (gas.opposite i)

  -- what comes where that is the neighbour
  abbrev pub arrives_from : Option (ℕ × ℕ) → Bool
  arrives_from o = option_map_or (λ (u : ℕ × ℕ). if is_solid c u.0 u.1 then sent_back else holds (at u.0 u.1) i) o sent_back

  -- what comes from a neighbour that is solid, or that is not
  pub arriving-beside : (u : ℕ × ℕ) (solid : Bool) → behind gas c x y i ≡ Some u → is_solid c u.0 u.1 ≡ solid →
      arriving gas c at x y i ≡ (if solid then sent_back else holds (at u.0 u.1) i)
  arriving-beside u solid there e = ap arrives_from there ∙ ap (λ (b : Bool). if b then sent_back else holds (at u.0 u.1) i) e
