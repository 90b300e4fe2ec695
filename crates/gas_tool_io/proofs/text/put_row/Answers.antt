use Rattle.std.proofs.Common.{◌≡◌, ◌∙◌, ap, List, ℕ, ◌+◌, ◌*◌, ◌++◌, take, drop, arith}
use Rattle.std.proofs.lemmas.List.{take_all}
use Rattle.gas_cells.specs.Cells.{row_cells}
use Rattle.gas_cells.proofs.Pairs.{parts-next}
use Rattle.gas_tool_io.proofs.Sinks.{Adds-then, Adds-same, Adds-more}
use Rattle.gas_tool_io.proofs.text.put_row.Goals as goal

pub loop-j-preserved : goal.loop-j-preserved
loop-j-preserved g c =
    let row : List ℕ = row_cells c.args.lattice.now.channel c.args.lattice.now.rows c.args.y in
    let j : ℕ = c.loop-j.j in
    let part : c.as_bytes.result.now ≡ take 128 (drop (128 * j) row) = c.as_bytes.ensures.value ∙ c.row_part.ensures.text in
    let joined : take (128 * j) row ++ c.as_bytes.result.now ≡ take (128 * (j + 1)) row =
    ap (λ (t : List ℕ). take (128 * j) row ++ t) part ∙ parts-next row j in
    Adds-more _ _ _ _ _ _ (take (128 * j) row) c.as_bytes.result.now (take (128 * (j + 1)) row) joined c.loop-j.invariant c.push.ensures

pub returns : goal.returns
returns g c =
    let row : List ℕ = row_cells c.args.lattice.now.channel c.args.lattice.now.rows c.args.y in
    let whole = take_all (128 * c.loop-j.j) row (omega (arith, c.row_parts-j-end.ensures.all c.args.y, c.loop-j-test.false)) in
    Adds-then _ _ _ _ _ _ _ _ (Adds-same _ _ _ _ _ _ whole c.loop-j.invariant) c.push-2.ensures
