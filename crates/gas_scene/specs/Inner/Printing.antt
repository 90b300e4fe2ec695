-- Inner words: what functions of this crate promise one another. No public contract cites them.
-- Here: the table of a checkpoint, key by key.
use Rattle.std.specs.Prelude.{ℕ, List, map, Option, codes, pos}
use Rattle.std.specs.Cmp.Lexicographic.{slice_cmp}
use Rattle.std.specs.List.{range_with_len}
use Rattle.std.specs.Option.{option_map_or}
use Rattle.std.specs.Ordering.{nat_cmp, match_ordering}
use Rattle.toml.specs.Data.{Data, string, integer, array, Members, no_members, member}
use Rattle.toml.specs.View.{items_of}
use Rattle.gas_geom.specs.Lattice.{LatticeModel}
use Rattle.gas_rows.specs.declared.chirality.Chirality.{Chirality}
use Rattle.gas_cells.specs.Cells.{row_cells}
use Rattle.gas_scene.specs.Catalog.{name_and_seed}

-- the texts of the rows, from the top
abbrev pub row_values : LatticeModel → List Data
row_values l = map (λ y. string (row_cells l.channel l.rows y)) (range_with_len 0 l.channel.height)

-- a table of ascending keys with one more value at a key
abbrev pub insert_member : List ℕ → Data → Members → Members
insert_member key d no_members = member key d no_members
insert_member key d (member k e ms) =
    match_ordering (slice_cmp nat_cmp key k) (member key d (member k e ms)) (member k d ms) (member k e (insert_member key d ms))

-- a table with the seed, if there is one
abbrev pub insert_seed : Option ℕ → Members → Members
insert_seed seed ms = option_map_or (λ n. insert_member (codes "seed") (integer (pos n)) ms) seed ms

-- the table of these values, key after key
unfoldable pub insert_all : List ℕ → List Data → Chirality → ℕ → Members
insert_all gas cells chirality generation =
    insert_seed (name_and_seed chirality).1 (
    insert_member (codes "cells") (array (items_of cells)) (
    insert_member (codes "generation") (integer (pos generation)) (
    insert_member (codes "chirality") (string (name_and_seed chirality).0) (
    insert_member (codes "gas") (string gas) (
    insert_member (codes "version") (integer (pos 2)) no_members)))))
