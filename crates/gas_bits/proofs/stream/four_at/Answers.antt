use Rattle.std.proofs.Common.{◌≡◌, ◌+◌, get_or, arith, ◌∙◌, ap}
use Rattle.gas_bits.proofs.stream.four_at.Goals.{then-n-lt4, else-n-lt4}
use Rattle.gas_bits.proofs.stream.four_at.Goals as goal

pub returns : goal.returns
returns c = record {
  words = λ l hl. elim c.if-n-lt4.branch [
    | then-n-lt4 w ↦ ap (λ four. get_or four l 0) w.result-is
        ∙ w.few_at.ensures l hl
        ∙ ap (λ k. get_or c.args.words.now k 0) (let e : l ≡ c.args.j + l = omega (arith, w.if-n-lt4.true, c.requires.within) in e)
    | else-n-lt4 w ↦ ap (λ four. get_or four l 0) w.result-is
        ∙ w.four_of.ensures l hl
  ];
}
