-- Inner words: what functions of this crate promise one another. No public contract cites them.
-- Here: how a block's numbers add up, by cells, directions and rows.
use Rattle.std.specs.Prelude.{ℕ, ◌+◌, ◌*◌, ◌/◌, ◌==◌, ◌≤◌, Bool, not, if◌then◌else◌, List, filter, map, pos, neg_ℤ, ◌+ℤ◌, ◌*ℤ◌, ◌≤ℤ◌}
use Rattle.std.specs.Int.{div_ceil}
use Rattle.std.specs.List.{range_with_len}
use Rattle.gas_geom.specs.Gas.{Rules, particles, momentum_of}
use Rattle.gas_geom.specs.Lattice.{LatticeModel}
use Rattle.gas_geom.specs.declared.size.TheConstants.{MOST_SIDE}
use Rattle.gas_blocks.specs.Blocks.{block_at}
use Rattle.gas_blocks.specs.declared.blocks.Block.{Block}

-- the numbers below n whose quotient by a size is k
abbrev pub part : ℕ → ℕ → ℕ → List ℕ
part n size k = filter (λ i. i / size == k) (range_with_len 0 n)

-- a row of blocks, from the left
abbrev pub row_of_blocks : Rules → LatticeModel → ℕ → ℕ → ℕ → List Block
row_of_blocks gas lattice width height row =
    map (block_at gas lattice width height row) (range_with_len 0 (div_ceil lattice.channel.width width))

abbrev pub empty_block : ℕ → ℕ → Block
empty_block col row = record { col = col; row = row; fluid = 0; particles = 0; px = pos 0; py = pos 0 }

-- a block with one more cell
abbrev pub plus_cell : Rules → Block → Bool → ℕ → Block
plus_cell gas b solid state = record {
  col = b.col;
  row = b.row;
  fluid = b.fluid + (if not solid then 1 else 0);
  particles = b.particles + particles gas state;
  px = b.px +ℤ (momentum_of gas state).0;
  py = b.py +ℤ (momentum_of gas state).1;
}

-- with the cell of column x of a row
abbrev pub plus_cell_of : Rules → (ℕ → Bool) → (ℕ → ℕ) → Block → ℕ → Block
plus_cell_of gas solid state b x = plus_cell gas b (solid x) (state x)

-- a block with `count` more particles of direction i
abbrev pub plus_particles : Rules → Block → ℕ → ℕ → Block
plus_particles gas b i count = record {
  col = b.col;
  row = b.row;
  fluid = b.fluid;
  particles = b.particles + count;
  px = b.px +ℤ (gas.momentum i).0 *ℤ pos count;
  py = b.py +ℤ (gas.momentum i).1 *ℤ pos count;
}

-- the most cells of a lattice, and so of a block
abbrev pub most_cells : ℕ
most_cells = MOST_SIDE * MOST_SIDE

-- a block of at most n cells may have these numbers
pub record HasRoom (b : Block) (n : ℕ) : Type 0 where
  pub fluid : b.fluid ≤ n
  pub particles : b.particles ≤ 8 * n
  pub west : neg_ℤ (pos (16 * n)) ≤ℤ b.px
  pub east : b.px ≤ℤ pos (16 * n)
  pub south : neg_ℤ (pos (16 * n)) ≤ℤ b.py
  pub north : b.py ≤ℤ pos (16 * n)
