use Rattle.std.proofs.Common.{◌∙◌, ◌^◌, ◌≤◌, ap, sym, subst, string_bytes, Some}
use Rattle.std.proofs.Math.Pow.{pow_mono}
use Rattle.std.proofs.lemmas.Str.{IsUtf8-string_bytes}
use Rattle.toml.specs.Data.{Members}
use Rattle.toml.specs.View.{table_view}
use Rattle.gas_geom.specs.Gas.{Rules}
use Rattle.gas_geom.specs.Lattice.{IsLattice}
use Rattle.gas_scene.specs.Catalog.{GasLattice}
use Rattle.gas_scene.specs.Scene.{table_answer}
use Rattle.gas_scene.proofs.Documents.{scene_of_text-document}
use Rattle.gas_scene.proofs.Tables.{checkpoint_table-made, depth-checkpoint}
use Rattle.gas_scene.proofs.Checkpoints.{table_answer-checkpoint}
use Rattle.gas_scene.proofs.checkpoint.build_text.Goals as goal

pub returns-in-Ok-clause-scene : goal.returns-in-Ok-clause-scene
returns-in-Ok-clause-scene g c =
    let l : GasLattice = record { gas = c.args.gas; lattice = c.args.lattice.now } in
    let ms : Members = table_view c.in_ok-table.table in
    let made = checkpoint_table-made l c.args.chirality c.args.generation _ _ ms c.name.ensures.name c.in_ok-cells.ensures.rows c.in_ok-table.ensures in
    let whole = subst (λ r. IsLattice r l.lattice.channel l.lattice.rows) (sym c.requires.known) c.row_values.ensures.lattice in
    let few = subst (λ (r : Rules). 2 ^ r.dirs ≤ 256) (sym c.requires.known) (pow_mono g.met.G.Gas.laws.few_dirs) in
    scene_of_text-document (string_bytes c.in-Ok.text) ms (IsUtf8-string_bytes c.in-Ok.text) (c.in-Ok.ensures.reads_back (rw made (depth-checkpoint l c.args.generation c.args.chirality)))
    ∙ ap table_answer made
    ∙ table_answer-checkpoint l.gas l.lattice whole c.row_values.ensures.channel few c.args.chirality c.args.generation c.requires.stated

pub returns-in-Ok-clause-table : goal.returns-in-Ok-clause-table
returns-in-Ok-clause-table g c =
    let l : GasLattice = record { gas = c.args.gas; lattice = c.args.lattice.now } in
    let made = checkpoint_table-made l c.args.chirality c.args.generation _ _ (table_view c.in_ok-table.table) c.name.ensures.name c.in_ok-cells.ensures.rows c.in_ok-table.ensures in
    c.in-Ok.ensures.reads_back (rw made (depth-checkpoint l c.args.generation c.args.chirality)) ∙ ap Some made
