use Rattle.std.proofs.Common.{◌≡◌, ◌≤◌, suc, ◌+◌, ℕ, subst, arith}
use Rattle.gas_pipe_model.specs.Plan.{before}
use Rattle.gas_pipe_model.proofs.Shares.{before-none, before-all, before-grows, before-each}
use Rattle.gas_pipe_model.proofs.pass.stages_in_order.Goals as goal

pub returns : goal.returns
returns c = record {
  first = before-none;
  next = λ plan k. let e : suc k ≡ k + 1 = omega arith in subst (λ (i : ℕ). before plan k ≤ before plan i) e (before-grows plan k);
  last = λ plan _. before-all plan;
  each = λ plan k _. before-each plan k;
}
