-- The table of a checkpoint.
use Rattle.std.proofs.Common.{◌≡◌, ℕ, suc, Bool, true, not, ◌&&◌, ◌≤◌, List, [], ◌∷◌, map, Some, None, pos, ap, ap₂, sym, ◌∙◌, refl, subst, arith, if◌then◌else◌}
use Rattle.std.specs.Prelude.{max}
use Rattle.std.specs.List.{list_all, range_with_len}
use Rattle.std.specs.Option.{unwrap_or}
use Rattle.toml.specs.Data.{Data, string, Members, as_str, items_depth, members_depth}
use Rattle.toml.specs.View.{items_of}
use Rattle.gas_geom.specs.Lattice.{LatticeModel}
use Rattle.gas_rows.specs.declared.chirality.Chirality.{Chirality}
use Rattle.gas_rows.specs.declared.chirality.Chirality.TheVariants.{Seeded, Left, Right}
use Rattle.gas_cells.specs.Cells.{row_cells}
use Rattle.gas_scene.specs.Catalog.{rules_of, name_and_seed, GasLattice}
use Rattle.gas_scene.specs.declared.error.SceneError.TheVariants.{WrongType}
use Rattle.gas_scene.specs.Table.{TableModel, text_of, list_of, table_of}
use Rattle.gas_scene.specs.Keys.{has_type, is_typed}
use Rattle.gas_scene.specs.Refusals.{table_refusal}
use Rattle.gas_scene.specs.Checkpoint.{checkpoint_table}
use Rattle.gas_scene.specs.Inner.Printing.{row_values, insert_all}

-- the rows of a lattice as texts
abbrev pub texts : LatticeModel → List (List ℕ)
texts l = map (λ y. row_cells l.channel l.rows y) (range_with_len 0 l.channel.height)

texts_read : (f : ℕ → List ℕ) (ys : List ℕ) → map text_of (list_of (items_of (map (λ y. string (f y)) ys))) ≡ map f ys
texts_read f [] = refl
texts_read f (y ∷ ys) = ap (λ (ts : List (List ℕ)). f y ∷ ts) (texts_read f ys)

all_texts : (f : ℕ → List ℕ) (ys : List ℕ) → list_all (has_type as_str) (list_of (items_of (map (λ y. string (f y)) ys))) ≡ true
all_texts f [] = refl
all_texts f (y ∷ ys) = all_texts f ys

flat : (f : ℕ → List ℕ) (ys : List ℕ) → items_depth (items_of (map (λ y. string (f y)) ys)) ≡ 0
flat f [] = refl
flat f (y ∷ ys) = ap (max 0) (flat f ys)

low : (n : ℕ) → n ≡ 0 → max (suc n) 0 ≤ 80
low n e = subst (λ k. max (suc k) 0 ≤ 80) (sym e) (omega arith)

-- the values of a checkpoint, inserted key by key, are its table
in_order : (l : GasLattice) (chirality : Chirality) (generation : ℕ) → insert_all (rules_of l.gas).name (row_values l.lattice) chirality generation ≡ checkpoint_table l chirality generation
unfolding insert_all checkpoint_table
in_order l (Seeded seed) generation = refl
in_order l Left generation = refl
in_order l Right generation = refl

pub checkpoint_table-made : (l : GasLattice) (chirality : Chirality) (generation : ℕ) (gas : List ℕ) (cells : List Data) (ms : Members) → gas ≡ (rules_of l.gas).name → cells ≡ row_values l.lattice
    → ms ≡ insert_all gas cells chirality generation → ms ≡ checkpoint_table l chirality generation
checkpoint_table-made l chirality generation gas cells ms named rows made =
    made ∙ ap₂ (λ (name : List ℕ) (ds : List Data). insert_all name ds chirality generation) named rows ∙ in_order l chirality generation

-- a table of version 2 with a map of these rows
abbrev pub with_rows : GasLattice → Chirality → ℕ → List (List ℕ) → TableModel
with_rows l chirality generation rows = record {
  version = pos 2;
  gas = (rules_of l.gas).name;
  chirality = (name_and_seed chirality).0;
  seed = pos (unwrap_or (name_and_seed chirality).1 0);
  generation = pos generation;
  cells = Some rows;
  width = pos 0;
  height = pos 0;
  rate = pos 0;
  solid = [];
  particles = [];
}

module _ (l : GasLattice) (generation : ℕ) where
  rows_read : (chirality : Chirality) → with_rows l chirality generation (map text_of (list_of (items_of (row_values l.lattice)))) ≡ with_rows l chirality generation (texts l.lattice)
  rows_read chirality = ap (with_rows l chirality generation) (texts_read (row_cells l.lattice.channel l.lattice.rows) (range_with_len 0 l.lattice.channel.height))

  pub table_of-checkpoint : (chirality : Chirality) → table_of (checkpoint_table l chirality generation) ≡ with_rows l chirality generation (texts l.lattice)
  unfolding checkpoint_table
  table_of-checkpoint (Seeded seed) = rows_read (Seeded seed)
  table_of-checkpoint Left = rows_read Left
  table_of-checkpoint Right = rows_read Right

  none_wrong : (if not (list_all (has_type as_str) (list_of (items_of (row_values l.lattice))) && true) then Some WrongType else None) ≡ None
  none_wrong = ap (λ (b : Bool). if not (b && true) then Some WrongType else None) (all_texts (row_cells l.lattice.channel l.lattice.rows) (range_with_len 0 l.lattice.channel.height))

  pub table_refusal-checkpoint : (chirality : Chirality) → table_refusal (checkpoint_table l chirality generation) ≡ None
  unfolding checkpoint_table table_refusal is_typed
  table_refusal-checkpoint (Seeded seed) = none_wrong
  table_refusal-checkpoint Left = none_wrong
  table_refusal-checkpoint Right = none_wrong

  pub depth-checkpoint : (chirality : Chirality) → members_depth (checkpoint_table l chirality generation) ≤ 80
  unfolding checkpoint_table
  depth-checkpoint (Seeded seed) = low _ (flat (row_cells l.lattice.channel l.lattice.rows) (range_with_len 0 l.lattice.channel.height))
  depth-checkpoint Left = low _ (flat (row_cells l.lattice.channel l.lattice.rows) (range_with_len 0 l.lattice.channel.height))
  depth-checkpoint Right = low _ (flat (row_cells l.lattice.channel l.lattice.rows) (range_with_len 0 l.lattice.channel.height))
