use Rattle.std.proofs.Common.{◌^◌, ◌/◌, map, length, ◌∙◌, ap, sym, inl, arith}
use Rattle.toml.specs.View.{view}
use Rattle.gas_geom.specs.Size.{SizeModel}
use Rattle.gas_geom.specs.Channel.{free_channel}
use Rattle.gas_geom.specs.Lattice.{empty_lattice}
use Rattle.gas_scene.specs.Table.{text_of}
use Rattle.gas_scene.specs.Inner.Maps.{map_width, map_before}
use Rattle.gas_scene.proofs.Maps.{length-rows, bad_cell-at, bad_cell-none, map_before-none, map_before-all}
use Rattle.gas_scene.proofs.map_form.map_lattice.Goals as goal

pub loop-y-init : goal.loop-y-init
loop-y-init g c =
    let states = 2 ^ g.G.Gas.rules.dirs in
    let values = c.args.rows.now in
    let rows = map text_of (map view values) in
    let size = rw c.unwrap-size.ensures at c.new.ensures.made in
    record {
      cells = λ k h. absurd (omega (arith, h));
      put = c.in_ok-lattice.ensures.value
          ∙ ap empty_lattice (c.in_ok-free.ensures.value ∙ ap (λ (s : SizeModel). free_channel s.width s.height) size
          ∙ ap (λ w. free_channel w (length values)) (ap (λ r. length r / 2) c.row.ensures) ∙ ap (free_channel (map_width rows)) (sym (length-rows values)))
          ∙ map_before-none states rows;
    }

pub returns-in-Some-clause-refused : goal.returns-in-Some-clause-refused
returns-in-Some-clause-refused g c =
    let rows = map text_of (map view c.args.rows.now) in
    inl (bad_cell-at (2 ^ g.G.Gas.rules.dirs) rows c.loop-y.y c.in-Some.c (omega (arith, c.loop-y-test.true, length-rows c.args.rows.now)) c.loop-y.invariant.cells
    (sym c.put_row.ensures.bad ∙ c.in-Some.is))

pub returns-clause-accepted : goal.returns-clause-accepted
returns-clause-accepted g c =
    bad_cell-none (2 ^ g.G.Gas.rules.dirs) (map text_of (map view c.args.rows.now))
    (λ k h. c.loop-y.invariant.cells k (omega (arith, h, c.loop-y-test.false, length-rows c.args.rows.now)))

pub returns-clause-value : goal.returns-clause-value
returns-clause-value g c =
    let states = 2 ^ g.G.Gas.rules.dirs in
    let rows = map text_of (map view c.args.rows.now) in
    c.loop-y.invariant.put ∙ ap (map_before states rows) (omega (arith, c.loop-y-test.false, length-rows c.args.rows.now)) ∙ map_before-all states rows
