-- Lemmas about how a block's numbers add up.
use Rattle.std.proofs.Common.{◌≡◌, ◌∙◌, ap, sym, ℕ, suc, ◌+◌, ◌-◌, ◌*◌, ◌<◌, ◌≤◌, min, refl, pos, negsuc, ◌+ℤ◌, ◌≤ℤ◌, neg_ℤ, ℤ, arith, List, [], ◌∷◌, ◌++◌, map, fold, append-nil, zero, ap₂, Bool}
use Rattle.std.specs.Prelude.{if◌then◌else◌, not, unsigned_abs}
use Rattle.std.specs.List.{range_with_len, flat_map}
use Rattle.std.proofs.lemmas.Int.{ints}
use Rattle.std.proofs.lemmas.Grind.{flat_map-append}
use Rattle.std.proofs.lemmas.List.Sums.{fold-append}
use Rattle.std.proofs.lemmas.List.Folds.{fold-map}
use Rattle.gas_geom.specs.Gas.{Rules, particles, momentum_of}
use Rattle.gas_geom.specs.Channel.{is_solid}
use Rattle.gas_geom.specs.Lattice.{LatticeModel, cell}
use Rattle.gas_bits.proofs.Ones.{range-append}
use Rattle.gas_blocks.specs.Blocks.{cells_of, block_of_cells, block_at}
use Rattle.gas_blocks.specs.Inner.Tally.{HasRoom, empty_block, part, plus_cell, plus_cell_of}
use Rattle.gas_blocks.specs.declared.blocks.Block.{Block}
use Rattle.gas_blocks.proofs.Ranges.{part-range}

-- a number from -m to m
pub record Within (m : ℕ) (z : ℤ) : Type 0 where
  pub low : neg_ℤ (pos m) ≤ℤ z
  pub high : z ≤ℤ pos m

-- a number from -2 to 2
abbrev pub IsSmall : ℤ → Type 0
IsSmall z = unsigned_abs z ≤ 2

pub small-within : (z : ℤ) → IsSmall z → Within 2 z
small-within (pos a) h = record { low = omega (arith, ints); high = omega (arith, ints, h) }
small-within (negsuc a) h = record { low = omega (arith, ints, h); high = omega (arith, ints) }

pub Within-add : (m n : ℕ) (y z : ℤ) → Within m y → Within n z → Within (m + n) (y +ℤ z)
Within-add m n y z h k = record { low = omega (arith, ints, h.low, k.low); high = omega (arith, ints, h.high, k.high) }

pub Within-le : (m n : ℕ) (z : ℤ) → m ≤ n → Within m z → Within n z
Within-le m n z le h = record { low = omega (arith, ints, h.low); high = omega (arith, ints, h.high) }

-- a block of no cell takes no room
pub HasRoom-none : (col row : ℕ) → HasRoom (empty_block col row) 0
HasRoom-none col row = record {
  fluid = omega arith;
  particles = omega arith;
  west = omega (arith, ints);
  east = omega (arith, ints);
  south = omega (arith, ints);
  north = omega (arith, ints);
}

pub HasRoom-le : (b : Block) (m n : ℕ) → m ≤ n → HasRoom b m → HasRoom b n
HasRoom-le b m n le h = record {
  fluid = omega (arith, h.fluid);
  particles = omega (arith, h.particles);
  west = omega (arith, ints, h.west);
  east = omega (arith, ints, h.east);
  south = omega (arith, ints, h.south);
  north = omega (arith, ints, h.north);
}

-- a block with the cell of a lattice at a place
abbrev pub plus_place : Rules → LatticeModel → Block → ℕ × ℕ → Block
plus_place gas lattice b c = plus_cell gas b (is_solid lattice.channel c.0 c.1) (cell lattice.rows c.0 c.1)

-- the cells of n rows, from row `from` on, that are in a column of blocks
abbrev pub cells_from : LatticeModel → ℕ → ℕ → ℕ → ℕ → List (ℕ × ℕ)
cells_from lattice width col from n = flat_map (λ y. map (λ x. (x, y)) (part lattice.channel.width width col)) (range_with_len from n)

-- a block with these cells
abbrev pub block_from : Rules → LatticeModel → ℕ → ℕ → ℕ → ℕ → ℕ → Block
block_from gas lattice width row from n col = fold (plus_place gas lattice) (empty_block col row) (cells_from lattice width col from n)

-- what the cells add to each number of a block
folded : (gas : Rules) (lattice : LatticeModel) (cells : List (ℕ × ℕ)) (b : Block)
    → let sums : Block = record {
      col = b.col;
      row = b.row;
      fluid = fold (λ a c. a + (if not (is_solid lattice.channel c.0 c.1) then 1 else 0)) b.fluid cells;
      particles = fold (λ a c. a + particles gas (cell lattice.rows c.0 c.1)) b.particles cells;
      px = fold (λ a c. a +ℤ (momentum_of gas (cell lattice.rows c.0 c.1)).0) b.px cells;
      py = fold (λ a c. a +ℤ (momentum_of gas (cell lattice.rows c.0 c.1)).1) b.py cells;
    } in fold (plus_place gas lattice) b cells ≡ sums
folded gas lattice [] b = refl
folded gas lattice (c ∷ cells) b = folded gas lattice cells (plus_place gas lattice b c)

-- the block of cells, one added after the other
block_folded : (gas : Rules) (lattice : LatticeModel) (col row : ℕ) (cells : List (ℕ × ℕ))
    → fold (plus_place gas lattice) (empty_block col row) cells ≡ block_of_cells gas lattice col row cells
block_folded gas lattice col row cells = folded gas lattice cells (empty_block col row)

-- a block with cells of a row, which others know by other words
pub fold-same : (gas : Rules) (solid solid' : ℕ → Bool) (state state' : ℕ → ℕ) (b : Block) (from n : ℕ) → ((x : ℕ) → x < from + n → solid x ≡ solid' x) → ((x : ℕ) → x < from + n → state x ≡ state' x)
    → fold (plus_cell_of gas solid state) b (range_with_len from n) ≡ fold (plus_cell_of gas solid' state') b (range_with_len from n)
fold-same gas solid solid' state state' b from zero cells states = refl
fold-same gas solid solid' state state' b from (suc n) cells states =
    ap₂ (λ (s : Bool) (t : ℕ). fold (plus_cell_of gas solid state) (plus_cell gas b s t) (range_with_len (from + 1) n)) (cells from (omega arith)) (states from (omega arith))
    ∙ fold-same gas solid solid' state state' (plus_cell gas b (solid' from) (state' from)) (from + 1) n (λ x lt. cells x (omega arith)) (λ x lt. states x (omega arith))

-- a block with the cells of one more row
pub block_from-more : (gas : Rules) (lattice : LatticeModel) (width row from n y col m : ℕ) (r : Block) → 1 ≤ width → col * width < lattice.channel.width
    → m ≡ min width (lattice.channel.width - col * width) → from + n ≡ y
    → r ≡ fold (plus_cell_of gas (λ x. is_solid lattice.channel x y) (λ x. cell lattice.rows x y)) (block_from gas lattice width row from n col) (range_with_len (col * width) m)
    → r ≡ block_from gas lattice width row from (n + 1) col
block_from-more gas lattice width row from n y col m r some begins long e is =
    let now : Block = block_from gas lattice width row from n col in
    let f = plus_cell_of gas (λ x. is_solid lattice.channel x y) (λ x. cell lattice.rows x y) in
    let g : ℕ → List (ℕ × ℕ) = λ z. map (λ x. (x, z)) (part lattice.channel.width width col) in
    let cells : cells_from lattice width col from (n + 1) ≡ cells_from lattice width col from n ++ g y =
    ap (flat_map g) (range-append from n 1) ∙ flat_map-append g (range_with_len from n) _ ∙ ap (λ z. cells_from lattice width col from n ++ (g z ++ [])) e
    ∙ ap (λ zs. cells_from lattice width col from n ++ zs) (append-nil (g y)) in
    is ∙ ap (fold f now) (sym (part-range lattice.channel.width width col m some begins long))
    ∙ sym (fold-map (plus_place gas lattice) (λ x. (x, y)) now (part lattice.channel.width width col))
    ∙ sym (fold-append (plus_place gas lattice) (empty_block col row) (cells_from lattice width col from n) (g y))
    ∙ ap (fold (plus_place gas lattice) (empty_block col row)) (sym cells)

-- a block with all of its rows
pub block_from-whole : (gas : Rules) (lattice : LatticeModel) (width height row n col : ℕ) → 1 ≤ height → row * height < lattice.channel.height
    → n ≡ min height (lattice.channel.height - row * height) → block_from gas lattice width row (row * height) n col ≡ block_at gas lattice width height row col
block_from-whole gas lattice width height row n col some begins long =
    ap (λ ys. fold (plus_place gas lattice) (empty_block col row) (flat_map (λ y. map (λ x. (x, y)) (part lattice.channel.width width col)) ys)) (sym (part-range lattice.channel.height height row n some begins long))
    ∙ block_folded gas lattice col row (cells_of lattice.channel width height col row)
