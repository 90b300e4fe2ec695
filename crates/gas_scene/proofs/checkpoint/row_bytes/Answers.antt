use Rattle.std.proofs.Common.{◌≡◌, ◌∙◌, ap₂, List, ℕ, ◌+◌, ◌*◌, ◌++◌, take, drop, arith}
use Rattle.std.proofs.lemmas.List.{take_all}
use Rattle.gas_cells.specs.Cells.{row_cells}
use Rattle.gas_cells.proofs.Pairs.{parts-next}
use Rattle.gas_scene.proofs.checkpoint.row_bytes.Goals as goal

pub loop-j-preserved : goal.loop-j-preserved
loop-j-preserved g c =
    let row : List ℕ = row_cells c.args.lattice.now.channel c.args.lattice.now.rows c.args.y in
    let j : ℕ = c.loop-j.j in
    let part : c.as_bytes.result.now ≡ take 128 (drop (128 * j) row) = c.as_bytes.ensures.value ∙ c.row_part.ensures.text in
    let joined : c.loop-j.text.items ++ c.as_bytes.result.now ≡ take (128 * (j + 1)) row =
    ap₂ (λ (s t : List ℕ). s ++ t) c.loop-j.invariant part ∙ parts-next row j in
    c.in_ok-extend_from_slice.ensures.items ∙ joined

pub returns-clause-row : goal.returns-clause-row
returns-clause-row g c =
    let row : List ℕ = row_cells c.args.lattice.now.channel c.args.lattice.now.rows c.args.y in
    c.loop-j.invariant ∙ take_all (128 * c.loop-j.j) row (omega (arith, c.row_parts-j-end.ensures.all c.args.y, c.loop-j-test.false))
