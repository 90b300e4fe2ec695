-- What a scene can state about a lattice during a run, and the table that states it.
use Rattle.std.specs.Prelude.{ℕ, ◌^◌, ◌&&◌, Bool, true, List, map, codes, pos, nat_lt, nat_le}
use Rattle.std.specs.List.{range_with_len}
use Rattle.std.specs.Option.{option_map_or}
use Rattle.toml.specs.Data.{Data, string, integer, array, Members, no_members, member}
use Rattle.toml.specs.View.{items_of}
use Rattle.gas_rows.specs.declared.chirality.Chirality.{Chirality}
use Rattle.gas_cells.specs.Cells.{row_cells}
use Rattle.gas_scene.specs.Catalog.{rules_of, name_and_seed, GasLattice}

-- whether a scene can state this chirality and this generation: a seed must be an integer of TOML
abbrev pub can_be_stated : Chirality → ℕ → Bool
can_be_stated chirality generation =
    option_map_or (λ seed. nat_lt seed (2 ^ 63)) (name_and_seed chirality).1 true && nat_le generation 1000000000000

-- the table of a checkpoint, with ascending keys: the texts of the rows from the top, and a seed if there is one
unfoldable pub checkpoint_table : GasLattice → Chirality → ℕ → Members
checkpoint_table l chirality generation =
    let cells : List Data = map (λ y. string (row_cells l.lattice.channel l.lattice.rows y)) (range_with_len 0 l.lattice.channel.height) in
    let version : Members = member (codes "version") (integer (pos 2)) no_members in
    member (codes "cells") (array (items_of cells)) (
    member (codes "chirality") (string (name_and_seed chirality).0) (
    member (codes "gas") (string (rules_of l.gas).name) (
    member (codes "generation") (integer (pos generation)) (
    option_map_or (λ seed. member (codes "seed") (integer (pos seed)) version) (name_and_seed chirality).1 version))))
