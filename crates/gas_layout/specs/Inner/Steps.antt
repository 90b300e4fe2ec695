-- Inner words: what functions of this crate promise one another. No public contract cites them.
-- Here: channels and lattices row by row.
use Rattle.std.specs.Prelude.{ℕ, Bool, false, if◌then◌else◌, nat_lt}
use Rattle.gas_geom.specs.Gas.{Rules}
use Rattle.gas_geom.specs.Channel.{ChannelModel}
use Rattle.gas_geom.specs.Lattice.{LatticeModel}
use Rattle.gas_layout.specs.Layout.{channel_of, lattice_of, filling}

-- the channel up to row y, fluid from there on
abbrev pub channel_before : ℕ → ℕ → (ℕ → ℕ → Bool) → ℕ → ChannelModel
channel_before width height solid y =
    channel_of width height (λ u v. if nat_lt v y then solid u v else false)

-- the fluid cells of the rows before row y are filled, and the others are empty
unfoldable pub filled_before : Rules → ℕ → ℕ → ℕ → ℕ → (ℕ → ℕ → Bool) → ℕ → LatticeModel
filled_before gas seed rate width height solid y =
    lattice_of width height solid
    (λ u v. if nat_lt v y then (if solid u v then 0 else filling gas seed rate width u v) else 0)
