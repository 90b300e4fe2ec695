-- Sums of blocks in memory: four numbers per block.
use Rattle.std.specs.Prelude.{List, [], ◌∷◌, ℤ, pos}
use Rattle.gas_blocks.specs.declared.blocks.Block.{Block}

-- its fluid cells, its particles, and their momenta eastwards and northwards
abbrev pub sums_of : Block → List ℤ
sums_of block = pos block.fluid ∷ pos block.particles ∷ block.px ∷ block.py ∷ []
