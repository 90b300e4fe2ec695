use Rattle.std.proofs.Common.{◌≡◌, ◌∙◌, ap, ap₂, pos, map, codes}
use Rattle.toml.specs.Data.{string, integer, array, Members, no_members}
use Rattle.toml.specs.View.{view, table_view, members_view, items_of}
use Rattle.toml.proofs.Views.{view-Integer, view-Array}
use Rattle.gas_scene.specs.Catalog.{name_and_seed}
use Rattle.gas_scene.specs.Inner.Printing.{insert_member, insert_seed, insert_all}
use Rattle.gas_scene.proofs.checkpoint.build_table.Goals as goal

pub returns : goal.returns
unfolding insert_all
returns c =
    let m1 : Members = insert_member (codes "version") (integer (pos 2)) no_members in
    let m2 : Members = insert_member (codes "gas") (string c.args.gas.now) m1 in
    let m3 : Members = insert_member (codes "chirality") (string (name_and_seed c.args.chirality).0) m2 in
    let m4 : Members = insert_member (codes "generation") (integer (pos c.args.generation)) m3 in
    let m5 : Members = insert_member (codes "cells") (array (items_of (map view c.args.cells.items))) m4 in
    let t0 : table_view c.new-table.result ≡ no_members = ap members_view c.new-table.ensures.empty in
    let t1 : table_view c.insert.new.table ≡ m1 = c.in_ok-insert.ensures ∙ ap₂ (insert_member (codes "version")) (view-Integer (pos 2)) t0 in
    let t2 : table_view c.insert-2.new.table ≡ m2 = c.in_ok-insert-2.ensures ∙ ap₂ (insert_member (codes "gas")) c.in_ok-string.ensures t1 in
    let t3 : table_view c.insert-3.new.table ≡ m3 =
    c.in_ok-insert-3.ensures ∙ ap₂ (insert_member (codes "chirality")) (c.in_ok-name.ensures ∙ ap string c.name_and_seed-seed.ensures.name) t2 in
    let t4 : table_view c.insert-4.new.table ≡ m4 = c.in_ok-insert-4.ensures ∙ ap₂ (insert_member (codes "generation")) c.integer.ensures t3 in
    let t5 : table_view c.insert-5.new.table ≡ m5 = c.in_ok-insert-5.ensures ∙ ap₂ (insert_member (codes "cells")) (view-Array c.args.cells) t4 in
    c.in_ok-insert_seed.ensures ∙ ap₂ insert_seed c.name_and_seed-seed.ensures.seed t5
