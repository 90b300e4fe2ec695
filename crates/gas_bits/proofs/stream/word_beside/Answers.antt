use Rattle.std.proofs.Common.{ℕ, ◌+◌, ◌*◌, ap, ◌∙◌, sym}
use Rattle.std.proofs.Math.Nat.{mod-eq_of_lt}
use Rattle.gas_geom.specs.Moves.{column_after}
use Rattle.gas_bits.specs.Words.{bit}
use Rattle.gas_bits.proofs.Shifts.{moved-west}
use Rattle.gas_bits.proofs.Words.{bit-at}
use Rattle.gas_bits.proofs.stream.word_beside.Goals as goal

pub returns-in-Back : goal.returns-in-Back
returns-in-Back c b hb inside =
    let words = c.args.words.now in
    let x : ℕ = 64 * c.args.j + b in
    moved-west (bit words) _ _ c.args.width c.args.j (λ k hk. sym (bit-at words c.args.j k hk)) _
    c.word_before.ensures c.from_west.ensures b hb inside ∙ ap (λ m. bit words (column_after c.args.width x m)) (sym c.in-Back.is)

pub returns-in-Stay : goal.returns-in-Stay
returns-in-Stay c b hb inside =
    let words = c.args.words.now in
    let x : ℕ = 64 * c.args.j + b in
    sym (bit-at words c.args.j b hb) ∙ ap (bit words) (sym (mod-eq_of_lt inside)) ∙ ap (λ m. bit words (column_after c.args.width x m)) (sym c.in-Stay.is)

pub returns-in-On : goal.returns-in-On
returns-in-On c b hb inside =
    c.word_east_of.ensures b hb inside ∙ ap (λ m. bit c.args.words.now (column_after c.args.width (64 * c.args.j + b) m)) (sym c.in-On.is)
