use Rattle.std.proofs.Common.{ℕ, ◌+◌, ◌*◌, get_or, ap, ◌∙◌, sym, arith}
use Rattle.std.proofs.Math.Nat.{mod-eq_of_lt}
use Rattle.gas_geom.specs.Gas.{holds}
use Rattle.gas_geom.specs.Moves.{column_after}
use Rattle.gas_bits.specs.Words.{bit}
use Rattle.gas_bits.proofs.Shifts.{moved-west}
use Rattle.gas_bits.proofs.Words.{bit-at}
use Rattle.gas_bits.proofs.stream.four_beside.Goals.{in-Back, in-Stay, in-On}
use Rattle.gas_bits.proofs.stream.four_beside.Goals as goal

pub returns : goal.returns
returns c = record {
  beside = λ l b hl hb inside.
      let words = c.args.words.now in
      let x : ℕ = 64 * (c.args.j + l) + b in
      elim c.match-along.branch [
        | in-Back w ↦ ap (λ four. holds (get_or four l 0) b) w.result-is ∙ moved-west (bit words) (holds (get_or c.four_at-here.result l 0)) _ c.args.width (c.args.j + l)
            (λ k hk. ap (λ w. holds w k) (c.four_at-here.ensures.words l hl) ∙ sym (bit-at words (c.args.j + l) k hk)) _
            (w.four_before.ensures l hl (omega (arith, inside))) (w.four_from_west.ensures l hl) b hb inside ∙ ap (λ m. bit words (column_after c.args.width x m)) (sym w.in-Back.is)
        | in-Stay w ↦ ap (λ four. holds (get_or four l 0) b) w.result-is ∙ ap (λ v. holds v b) (c.four_at-here.ensures.words l hl)
            ∙ sym (bit-at words (c.args.j + l) b hb) ∙ ap (bit words) (sym (mod-eq_of_lt inside)) ∙ ap (λ m. bit words (column_after c.args.width x m)) (sym w.in-Stay.is)
        | in-On w ↦ ap (λ four. holds (get_or four l 0) b) w.result-is ∙ w.east_of.ensures l hl b hb inside ∙ ap (λ m. bit words (column_after c.args.width x m)) (sym w.in-On.is)
      ];
}
