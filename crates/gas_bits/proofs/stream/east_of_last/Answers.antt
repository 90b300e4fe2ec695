use Rattle.std.proofs.Common.{ℕ, ◌+◌, ◌-◌, ◌*◌, ◌%◌, length, ap, ◌∙◌, sym, arith}
use Rattle.gas_geom.specs.Laws.Steps.{whole_turn}
use Rattle.gas_bits.specs.Words.{bit}
use Rattle.gas_bits.proofs.Shifts.{moved-east}
use Rattle.gas_bits.proofs.Words.{bit-at}
use Rattle.gas_bits.proofs.stream.east_of_last.Goals as goal

pub returns : goal.returns
returns c b h inside =
    let words = c.args.words.now in
    let width : ℕ = c.args.width in
    let j : ℕ = length words - 1 in
    let top : ℕ = (width - 1) % 64 in
    moved-east (bit words) _ _ width j (λ b h. sym (bit-at words j b h)) top _ (omega arith) (omega arith)
    (sym (bit-at words 0 0 (omega arith)) ∙ ap (bit words) (sym (whole_turn width 0 (64 * j + top + 1) (omega arith) (omega arith))))
    c.from_east.ensures b (omega arith)
