use Rattle.std.proofs.Common.{◌≡◌, ◌≤◌, ◌∙◌, ◌+◌, suc, sym, subst, length, ℕ, arith, ◌++◌}
use Rattle.gas_pipe_model.specs.Pass.{line_of, rows_on}
use Rattle.gas_pipe_model.proofs.Generations.{pass_is_line, rows_high, owes_next}
use Rattle.gas_pipe_model.proofs.pass.owed_in_order.Goals as goal

pub returns : goal.returns
returns c = record {
  whole = λ gas input n k is. rows_high gas input is n k;
  next = λ gas input n k is.
      let e : suc k ≡ k + 1 = omega arith in
      subst (λ (i : ℕ). (line_of gas input n).owe i (rows_on gas input n k) ≡ rows_on gas input n i) e (owes_next gas input is n k);
  grows = λ gas input n k took more is few.
      (pass_is_line gas input is n).grows k took more
      (let high : length (took ++ more) ≤ length (rows_on gas input n 0) = omega (arith, few, rows_high gas input is n 0) in high);
  all = λ gas input n k took is whole.
      let high = rows_high gas input is n 0 in
      (pass_is_line gas input is n).all k took (whole ∙ sym high) ∙ high;
  no_more = λ gas input n k took is. (pass_is_line gas input is n).no_more k took;
}
