-- The scene of a text.
use Rattle.std.specs.Prelude.{ℕ, ◌^◌, Bool, List, [], slice_index_or, Result, Ok, Err, if◌then◌else◌, length, pos, nat_abs}
use Rattle.std.specs.Option.{option_map_or, option_or, unwrap_or}
use Rattle.std.specs.Str.{is_utf8}
use Rattle.toml.specs.Data.{Members}
use Rattle.toml.specs.Parse.{parse_document}
use Rattle.gas_geom.specs.Gas.{Rules}
use Rattle.gas_geom.specs.Lattice.{LatticeModel}
use Rattle.gas_rows.specs.declared.chirality.Chirality.{Chirality}
use Rattle.gas_rows.specs.declared.chirality.Chirality.TheVariants.{Left}
use Rattle.gas_cells.specs.Reading.{cells_in, cell_or_empty}
use Rattle.gas_scene.specs.Catalog.{rules_of, chirality_named, GasLattice}
use Rattle.gas_layout.specs.Layout.{is_covered, lattice_of, filling, placed}
use Rattle.gas_scene.specs.declared.error.SceneError.{SceneError}
use Rattle.gas_scene.specs.declared.error.SceneError.TheVariants.{Syntax}
use Rattle.gas_scene.specs.Table.{TableModel, table_of}
use Rattle.gas_scene.specs.Refusals.{gas_of, table_refusal, value_refusal}

-- a lattice, the source of the random bits of its collisions, and its generation, whose random bits the first step uses
pub record SceneModel : Type 0 where
  pub lattice : GasLattice
  pub chirality : Chirality
  pub generation : ℕ

-- the lattice of a map
unfoldable pub map_lattice : ℕ → List (List ℕ) → LatticeModel
map_lattice states rows =
    lattice_of (cells_in (slice_index_or rows 0 [])) (length rows)
    (λ x y. (cell_or_empty states (slice_index_or rows y []) x).solid) (λ x y. (cell_or_empty states (slice_index_or rows y []) x).state)

-- the lattice of an area: its rectangles are solid, and its fluid cells are filled at the rate with the seed. Then each
-- placement in order sets the state of its cell.
unfoldable pub area_lattice : Rules → TableModel → LatticeModel
area_lattice gas t =
    let solid : ℕ → ℕ → Bool = λ x y. is_covered t.solid (pos x) (pos y) in
    lattice_of (nat_abs t.width) (nat_abs t.height) solid
    (λ x y. placed t.particles x y (if solid x y then 0 else filling gas (nat_abs t.seed) (nat_abs t.rate) (nat_abs t.width) x y))

-- the scene of a table that is not refused
abbrev pub scene_of : TableModel → SceneModel
scene_of t = record {
  lattice = record {
    gas = gas_of t;
    lattice = option_map_or (map_lattice (2 ^ (rules_of (gas_of t)).dirs)) t.cells (area_lattice (rules_of (gas_of t)) t);
  };
  chirality = unwrap_or (chirality_named t.chirality (nat_abs t.seed)) Left;
  generation = nat_abs t.generation;
}

-- the scene of a table, or its first fault
unfoldable pub table_answer : Members → Result SceneModel SceneError
table_answer ms = option_map_or Err (option_or (table_refusal ms) (value_refusal (table_of ms))) (Ok (scene_of (table_of ms)))

-- the scene of a text, or its first fault
unfoldable pub scene_of_text : List ℕ → Result SceneModel SceneError
scene_of_text text = if is_utf8 text then option_map_or table_answer (parse_document text) (Err Syntax) else Err Syntax
