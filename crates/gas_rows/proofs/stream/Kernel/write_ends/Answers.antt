use Rattle.std.proofs.Common.{◌∙◌, arith}
use Rattle.std.proofs.lemmas.Bool.Decides.{nat_tests}
use Rattle.gas_rows.proofs.stream.Kernel.write_ends.Goals.{then-k-eq0, else-k-eq0}
use Rattle.gas_rows.proofs.stream.Kernel.write_ends.Goals as goal

pub loop-k-preserved : goal.loop-k-preserved
loop-k-preserved g c = record {
  long = c.write_four.ensures.long ∙ c.loop-k.invariant.long;
  written = λ ch at about x h.
      let here = c.write_four.ensures.advanced ch at about x h in
      let before = c.loop-k.invariant.written ch at about x h in
      let words = c.words_for.ensures.value in
      let most = c.saturating_sub-last.ensures in
      let wide = about.wide in
      elim c.if-k-eq0.branch [
        | then-k-eq0 w ↦ let first = w.if-k-eq0.true in let place = w.j-is in grind (arith, nat_tests)
        | else-k-eq0 w ↦ let later = w.if-k-eq0.false in let place = w.j-is in grind (arith, nat_tests)
      ];
}
