-- The printed texts. A lattice has a line with its generation and its particles, then its rows from the top. A scene has a
-- summary of one line.
use Rattle.std.specs.Prelude.{ℕ, List, [], ◌∷◌, ◌++◌, codes}
use Rattle.std.specs.Fmt.{decimal}
use Rattle.std.specs.List.{flat_map, range_with_len}
use Rattle.gas_geom.specs.Gas.{Rules}
use Rattle.gas_geom.specs.Channel.{solid_cells}
use Rattle.gas_geom.specs.Lattice.{LatticeModel, count}
use Rattle.gas_cells.specs.Cells.{row_cells}

abbrev pub line_feed : List ℕ
line_feed = 10 ∷ []

unfoldable pub cells_text : Rules → LatticeModel → ℕ → List ℕ
cells_text gas lattice generation =
    codes "generation " ++ decimal generation ++ codes " particles " ++ decimal (count gas lattice.rows) ++ line_feed
    ++ flat_map (λ y. row_cells lattice.channel lattice.rows y ++ line_feed) (range_with_len 0 lattice.channel.height)

-- the summary of a scene: the name of its gas, its size, and the numbers of its solid cells and of its particles
unfoldable pub check_text : List ℕ → Rules → LatticeModel → List ℕ
check_text name gas lattice =
    codes "gas " ++ name ++ codes " width " ++ decimal lattice.channel.width ++ codes " height " ++ decimal lattice.channel.height
    ++ codes " solid " ++ decimal (solid_cells lattice.channel) ++ codes " particles " ++ decimal (count gas lattice.rows) ++ line_feed
