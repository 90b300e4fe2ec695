use Rattle.std.proofs.Common.{◌^◌, ◌<◌, ℕ, List, map, length, subst, sym, ◌∙◌, ap, ap₂, arith}
use Rattle.std.specs.Prelude.{IfSome}
use Rattle.std.proofs.lemmas.Nat.{pow_pos}
use Rattle.toml.specs.View.{view}
use Rattle.gas_geom.specs.Lattice.{LatticeModel}
use Rattle.gas_cells.specs.Reading.{bad_column, cells_in}
use Rattle.gas_scene.specs.Table.{text_of}
use Rattle.gas_scene.proofs.Maps.{length-rows, width-map_before, height-map_before, map_before-next, with_row, IsRow, IsRow-read, IsRow-within, IsRow-empty}
use Rattle.gas_scene.proofs.map_form.put_row.Goals as goal

pub set_row-requires : goal.set_row-requires
set_row-requires g c =
    let states = 2 ^ g.G.Gas.rules.dirs in
    let rows = map text_of (map view c.args.rows.now) in
    let y = c.args.y in
    let in_rows : y < length rows = omega (arith, c.requires.within, length-rows c.args.rows.now) in
    let is : IsRow states rows y c.read_row-bad.new.solid c.read_row-bad.new.state_of =
    subst (λ n. IsRow n rows y c.read_row-bad.new.solid c.read_row-bad.new.state_of) c.states.ensures
    (IsRow-read c.states.result rows y c.row-row.result.now c.read_row-bad.new.solid c.read_row-bad.new.state_of c.requires.map in_rows c.row-row.ensures
    c.read_row-bad.ensures.wide c.read_row-bad.ensures.as_wide c.read_row-bad.ensures.solid c.read_row-bad.ensures.states) in
    let width = ap (λ (l : LatticeModel). l.channel.width) c.requires.before ∙ width-map_before states rows y in
    record {
      row = omega (arith, in_rows, ap (λ (l : LatticeModel). l.channel.height) c.requires.before ∙ height-map_before states rows y);
      as_wide = is.wide ∙ sym width;
      wide = is.as_wide ∙ sym width;
      states = IsRow-within states rows y c.read_row-bad.new.solid c.read_row-bad.new.state_of is (pow_pos g.G.Gas.rules.dirs);
      empty = IsRow-empty states rows y c.read_row-bad.new.solid c.read_row-bad.new.state_of is;
    }

pub returns : goal.returns
returns g c =
    let states = 2 ^ g.G.Gas.rules.dirs in
    let rows = map text_of (map view c.args.rows.now) in
    let y = c.args.y in
    let in_rows : y < length rows = omega (arith, c.requires.within, length-rows c.args.rows.now) in
    let is : IsRow states rows y c.read_row-bad.new.solid c.read_row-bad.new.state_of =
    subst (λ n. IsRow n rows y c.read_row-bad.new.solid c.read_row-bad.new.state_of) c.states.ensures
    (IsRow-read c.states.result rows y c.row-row.result.now c.read_row-bad.new.solid c.read_row-bad.new.state_of c.requires.map in_rows c.row-row.ensures
    c.read_row-bad.ensures.wide c.read_row-bad.ensures.as_wide c.read_row-bad.ensures.solid c.read_row-bad.ensures.states) in
    record {
      bad = c.read_row-bad.ensures.bad ∙ ap₂ (λ (n : ℕ) (r : List ℕ). bad_column n r) c.states.ensures c.row-row.ensures;
      within = subst (λ (w : ℕ). IfSome c.read_row-bad.result (λ x. x < w)) (ap cells_in c.row-row.ensures ∙ c.requires.map.wide y in_rows) c.read_row-bad.ensures.within;
      put = c.set_row.ensures.written ∙ ap (λ l. with_row l y c.read_row-bad.new.solid c.read_row-bad.new.state_of) c.requires.before
          ∙ map_before-next states rows y c.read_row-bad.new.solid c.read_row-bad.new.state_of in_rows is;
    }
