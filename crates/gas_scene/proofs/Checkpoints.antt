-- The table of a checkpoint reads as the scene that it was made of.
use Rattle.std.proofs.Common.{◌≡◌, ℕ, ◌*◌, ◌/◌, ◌%◌, ◌^◌, ◌<◌, ◌≤◌, ◌==◌, Bool, true, false, not, ◌&&◌, List, [], map, length, get_or, Some, None, pos, nat_le, ap, ap₂, sym, ◌∙◌, refl, arith, if◌then◌else◌}
use Rattle.std.specs.Prelude.{Ok, Err, is_some, int_le}
use Rattle.std.specs.List.{range_with_len}
use Rattle.std.specs.Option.{option_or, option_map_or, unwrap_or}
use Rattle.std.proofs.lemmas.Bool.{and_from, and_parts, leb-true}
use Rattle.std.proofs.lemmas.Bool.Decides.{nat_tests}
use Rattle.std.proofs.lemmas.Int.{ints}
use Rattle.std.proofs.lemmas.List.FromFn.{fill_by_all, length-map-range_with_len, get_or-map-range_with_len}
use Rattle.gas_geom.specs.Channel.{IsChannel, is_solid}
use Rattle.gas_geom.specs.Lattice.{LatticeModel, IsLattice, cell, rows_of}
use Rattle.gas_geom.specs.declared.size.TheConstants.{MOST_SIDE}
use Rattle.gas_rows.specs.declared.chirality.Chirality.{Chirality}
use Rattle.gas_rows.specs.declared.chirality.Chirality.TheVariants.{Seeded, Left, Right}
use Rattle.gas_cells.specs.declared.reading.Cell.{Cell}
use Rattle.gas_cells.specs.Cells.{row_cells}
use Rattle.gas_cells.specs.Reading.{cell_at, bad_column}
use Rattle.gas_cells.proofs.Pairs.{length-row_cells}
use Rattle.gas_cells.proofs.Printed.{cell_at-row_cells, bad_column-row_cells}
use Rattle.gas_scene.specs.declared.catalog.KnownGas.{KnownGas}
use Rattle.gas_scene.specs.declared.catalog.KnownGas.TheVariants.{Fhp1, Hpp, FhpRest}
use Rattle.gas_scene.specs.Catalog.{rules_of, gas_named, name_and_seed, chirality_named, GasLattice}
use Rattle.gas_layout.specs.Layout.{between, lattice_of}
use Rattle.gas_layout.proofs.Grids.{lattice_of-same}
use Rattle.gas_scene.specs.declared.scene_table.TheConstants.{LAST_GENERATION}
use Rattle.gas_scene.specs.declared.error.SceneError.TheVariants.{Range}
use Rattle.gas_scene.specs.Table.{TableModel, table_of}
use Rattle.gas_scene.specs.Refusals.{gas_of, has_wrong_length, row_length, bad_cell, map_refusal, is_common_in_range, table_refusal, value_refusal}
use Rattle.gas_scene.specs.Scene.{map_lattice, scene_of, table_answer}
use Rattle.gas_scene.specs.Checkpoint.{can_be_stated, checkpoint_table}
use Rattle.gas_scene.specs.Inner.Maps.{row_at, map_cell}
use Rattle.gas_scene.proofs.Maps.{bad_cell-none, row_length-none}
use Rattle.gas_scene.proofs.Tables.{texts, with_rows, table_of-checkpoint, table_refusal-checkpoint}

-- rows by their items
rows_of-whole : {A : Type 0} (w h : ℕ) (rows : List (List A)) (d : A) → length rows ≡ h → ((y : ℕ) → y < h → length (get_or rows y []) ≡ w)
    → rows ≡ rows_of w h (λ x y. get_or (get_or rows y []) x d)
rows_of-whole w h rows d high wide =
    fill_by_all (λ y. map (λ x. get_or (get_or rows y []) x d) (range_with_len 0 w)) rows h [] high
    (λ y within. fill_by_all (λ x. get_or (get_or rows y []) x d) (get_or rows y []) w d (wide y within) (λ x _. refl))

fit : (w : ℕ) → 1 ≤ w → w ≤ MOST_SIDE
    → not ((2 * w % 2 == 0) && (between (pos 1) (pos MOST_SIDE) (pos (2 * w / 2)) && (2 * w == 2 * w))) ≡ false
fit w some few = grind (arith, nat_tests, ints)

few_rows : (n : ℕ) → 1 ≤ n → n ≤ MOST_SIDE → between (pos 1) (pos MOST_SIDE) (pos n) ≡ true
few_rows n some few = grind (arith, ints)

-- each gas and each chirality has its own name
gas_named-self : (gas : KnownGas) → gas_named (rules_of gas).name ≡ Some gas
gas_named-self Fhp1 = refl
gas_named-self Hpp = refl
gas_named-self FhpRest = refl

chirality_named-self : (chirality : Chirality) → chirality_named (name_and_seed chirality).0 (unwrap_or (name_and_seed chirality).1 0) ≡ Some chirality
chirality_named-self (Seeded seed) = refl
chirality_named-self Left = refl
chirality_named-self Right = refl

natural : (n : ℕ) → int_le (pos 0) (pos n) ≡ true
natural n = grind (arith, ints)

few_generations : (chirality : Chirality) (generation : ℕ) → can_be_stated chirality generation ≡ true → between (pos 0) (pos LAST_GENERATION) (pos generation) ≡ true
few_generations chirality generation is =
    let few : generation ≤ LAST_GENERATION = leb-true generation LAST_GENERATION (and_parts _ (nat_le generation LAST_GENERATION) is).1 in
    grind (arith, ints)

module _ (gas : KnownGas) (l : LatticeModel) (whole : IsLattice (rules_of gas) l.channel l.rows) (channel : IsChannel l.channel)
    (few : 2 ^ (rules_of gas).dirs ≤ 256) where
  abbrev states : ℕ
  states = 2 ^ (rules_of gas).dirs

  row-texts : (y : ℕ) → y < l.channel.height → row_at (texts l) y ≡ row_cells l.channel l.rows y
  row-texts y within = get_or-map-range_with_len (λ v. row_cells l.channel l.rows v) 0 l.channel.height y y [] within (omega arith)

  high-texts : length (texts l) ≡ l.channel.height
  high-texts = length-map-range_with_len (λ v. row_cells l.channel l.rows v) 0 l.channel.height

  wide-texts : (y : ℕ) → y < l.channel.height → length (row_at (texts l) y) ≡ 2 * l.channel.width
  wide-texts y within = ap length (row-texts y within) ∙ length-row_cells l.channel l.rows y

  width-texts : length (row_at (texts l) 0) / 2 ≡ l.channel.width
  width-texts = omega (arith, wide-texts 0 channel.size.some_rows)

  read : (x y : ℕ) → x < l.channel.width → y < l.channel.height
      → map_cell states (texts l) x y ≡ record { solid = is_solid l.channel x y; state = cell l.rows x y }
  read x y in_columns in_rows =
      ap (λ o. unwrap_or o (record { solid = false; state = 0 }))
      (ap (λ r. cell_at states r x) (row-texts y in_rows) ∙ cell_at-row_cells l.channel l.rows states x y in_columns (whole.sets x y) few (whole.empty x y))

  map_lattice-texts : map_lattice states (texts l) ≡ l
  unfolding map_lattice
  map_lattice-texts =
      ap₂ (λ (w h : ℕ). lattice_of w h (λ x y. (map_cell states (texts l) x y).solid) (λ x y. (map_cell states (texts l) x y).state)) width-texts high-texts
      ∙ lattice_of-same l.channel.width l.channel.height (λ x y. (map_cell states (texts l) x y).solid) (is_solid l.channel)
      (λ x y. (map_cell states (texts l) x y).state) (cell l.rows)
      (λ x y in_columns in_rows. ap (λ (c : Cell). c.solid) (read x y in_columns in_rows))
      (λ x y in_columns in_rows. ap (λ (c : Cell). c.state) (read x y in_columns in_rows))
      ∙ sym (ap₂ (λ (s : List (List Bool)) (rs : List (List ℕ)). record { channel = record { width = l.channel.width; height = l.channel.height; solid = s }; rows = rs })
      (rows_of-whole l.channel.width l.channel.height l.channel.solid false channel.high channel.wide)
      (rows_of-whole l.channel.width l.channel.height l.rows 0 whole.high whole.wide))

  fits : (r : ℕ) → r < l.channel.height → has_wrong_length MOST_SIDE (length (row_at (texts l) 0)) (row_at (texts l) r) ≡ false
  fits r within =
      ap₂ (λ (n k : ℕ). not ((n % 2 == 0) && (between (pos 1) (pos MOST_SIDE) (pos (n / 2)) && (n == k)))) (wide-texts r within) (wide-texts 0 channel.size.some_rows)
      ∙ fit l.channel.width channel.size.some_columns channel.size.few_columns

  lengths : row_length MOST_SIDE (texts l) ≡ None
  lengths = row_length-none MOST_SIDE (texts l) (λ r within. fits r (omega (arith, within, high-texts)))

  columns : (r : ℕ) → r < l.channel.height → bad_column states (row_at (texts l) r) ≡ None
  columns r within = ap (bad_column states) (row-texts r within) ∙ bad_column-row_cells l.channel l.rows states r (λ x. whole.sets x r) few (λ x. whole.empty x r)

  cells : bad_cell states (texts l) ≡ None
  cells = bad_cell-none states (texts l) (λ r within. ap is_some (columns r (omega (arith, within, high-texts))))

  map_refusal-texts : map_refusal MOST_SIDE states (texts l) ≡ None
  unfolding map_refusal
  map_refusal-texts =
      ap (λ (b : Bool). if not b then Some Range else option_or (row_length MOST_SIDE (texts l)) (bad_cell states (texts l)))
      (ap (λ n. between (pos 1) (pos MOST_SIDE) (pos n)) high-texts ∙ few_rows l.channel.height channel.size.some_rows channel.size.few_rows)
      ∙ ap₂ option_or lengths cells

  module _ (chirality : Chirality) (generation : ℕ) (is : can_be_stated chirality generation ≡ true) where
    abbrev here : GasLattice
    here = record { gas = gas; lattice = l }

    abbrev table : TableModel
    table = with_rows here chirality generation (texts l)

    gas_is : gas_of table ≡ gas
    gas_is = ap (λ o. unwrap_or o Fhp1) (gas_named-self gas)

    common : is_common_in_range table ≡ true
    common =
        and_from _ _ (natural _) (and_from _ _ (few_generations chirality generation is) (and_from _ _ (ap is_some (gas_named-self gas)) (ap is_some (chirality_named-self chirality))))

    values : value_refusal table ≡ None
    unfolding value_refusal
    values =
        ap (λ (b : Bool). if not b then Some Range else map_refusal MOST_SIDE (2 ^ (rules_of (gas_of table)).dirs) (texts l)) common
        ∙ ap (λ (g : KnownGas). map_refusal MOST_SIDE (2 ^ (rules_of g).dirs) (texts l)) gas_is
        ∙ map_refusal-texts

    refused : option_or (table_refusal (checkpoint_table here chirality generation)) (value_refusal (table_of (checkpoint_table here chirality generation))) ≡ None
    refused = ap₂ option_or (table_refusal-checkpoint here generation chirality) (ap value_refusal (table_of-checkpoint here generation chirality) ∙ values)

    scene : scene_of table ≡ record { lattice = here; chirality = chirality; generation = generation }
    scene =
        ap₂ (λ (g : KnownGas) (c : Chirality). record {
          lattice = record { gas = g; lattice = map_lattice (2 ^ (rules_of g).dirs) (texts l) };
          chirality = c;
          generation = generation;
        }) gas_is (ap (λ o. unwrap_or o Left) (chirality_named-self chirality))
        ∙ ap (λ (m : LatticeModel). record { lattice = record { gas = gas; lattice = m }; chirality = chirality; generation = generation }) map_lattice-texts

    pub table_answer-checkpoint : table_answer (checkpoint_table here chirality generation) ≡ Ok (record { lattice = here; chirality = chirality; generation = generation })
    unfolding table_answer
    table_answer-checkpoint =
        ap (λ o. option_map_or Err o (Ok (scene_of (table_of (checkpoint_table here chirality generation))))) refused
        ∙ ap (λ (t : TableModel). Ok (scene_of t)) (table_of-checkpoint here generation chirality) ∙ ap Ok scene
