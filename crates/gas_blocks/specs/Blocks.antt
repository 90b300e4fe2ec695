-- Blocks of the cells of a lattice.
use Rattle.std.specs.Prelude.{ℕ, ◌/◌, ◌==◌, not, List, map, filter, sum_by, count_by}
use Rattle.std.specs.Int.{div_ceil}
use Rattle.std.specs.List.{range_with_len, flat_map}
use Rattle.gas_geom.specs.Gas.{Rules, particles, signed_sum_by, momentum_of}
use Rattle.gas_geom.specs.Channel.{ChannelModel, is_solid}
use Rattle.gas_geom.specs.Lattice.{LatticeModel, cell}
use Rattle.gas_blocks.specs.declared.blocks.Block.{Block}

-- The cells (x, y) of the block in column `col` and row `row` of the blocks. x divided by the blocks' width is `col`, and y
-- divided by their height is `row`.
abbrev pub cells_of : ChannelModel → ℕ → ℕ → ℕ → ℕ → List (ℕ × ℕ)
cells_of channel width height col row =
    flat_map (λ y. map (λ x. (x, y)) (filter (λ x. x / width == col) (range_with_len 0 channel.width)))
    (filter (λ y. y / height == row) (range_with_len 0 channel.height))

-- the block of a list of cells: its numbers of fluid cells and of particles, and the sums of its particles' momenta
abbrev pub block_of_cells : Rules → LatticeModel → ℕ → ℕ → List (ℕ × ℕ) → Block
block_of_cells gas lattice col row cells = record {
  col = col;
  row = row;
  fluid = count_by (λ c. not (is_solid lattice.channel c.0 c.1)) cells;
  particles = sum_by (λ c. particles gas (cell lattice.rows c.0 c.1)) cells;
  px = signed_sum_by (λ c. (momentum_of gas (cell lattice.rows c.0 c.1)).0) cells;
  py = signed_sum_by (λ c. (momentum_of gas (cell lattice.rows c.0 c.1)).1) cells;
}

-- the block in a row and a column of the blocks
abbrev pub block_at : Rules → LatticeModel → ℕ → ℕ → ℕ → ℕ → Block
block_at gas lattice width height row col = block_of_cells gas lattice col row (cells_of lattice.channel width height col row)

-- all blocks of a lattice, by rows of blocks from the top, each from the left
abbrev pub blocks_of : Rules → LatticeModel → ℕ → ℕ → List Block
blocks_of gas lattice width height =
    flat_map (λ row. map (block_at gas lattice width height row) (range_with_len 0 (div_ceil lattice.channel.width width)))
    (range_with_len 0 (div_ceil lattice.channel.height height))
