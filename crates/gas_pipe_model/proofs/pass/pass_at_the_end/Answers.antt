use Rattle.std.proofs.Common.{◌≡◌, ℕ, ◌+◌, ◌*◌, length, ap, ◌∙◌, arith}
use Rattle.gas_pipe_model.specs.Line.{start, events}
use Rattle.gas_pipe_model.specs.Pass.{line_of, after, rows_on}
use Rattle.gas_pipe_model.proofs.Turns.{fits_start}
use Rattle.gas_pipe_model.proofs.Kept.{fits}
use Rattle.gas_pipe_model.proofs.Totals.{total_run, total_start, most_from_done}
use Rattle.gas_pipe_model.proofs.Generations.{pass_is_line, pass_carries, rows_high, ends_last}
use Rattle.gas_pipe_model.proofs.pass.pass_at_the_end.Goals as goal

pub returns : goal.returns
returns c = record {
  put = λ gas input n turns k is done h. (pass_carries gas input is n turns done k h).0;
  taken = λ gas input n turns k is done h. (pass_carries gas input is n turns done k h).1;
  last = λ gas input n turns is done enough.
      (pass_carries gas input is n turns done input.plan.threads (omega arith)).1 ∙ ends_last gas input n enough;
  count = λ gas input n turns is done.
      let line = pass_is_line gas input is n in
      let whole : events (line_of gas input n) turns start ≡ 2 * length (rows_on gas input n 0) * (input.plan.threads + 1) =
      omega (
        arith,
        total_run (line_of gas input n) line turns start (fits_start (line_of gas input n)),
        total_start input.plan.threads,
        most_from_done (line_of gas input n) line (after gas input n turns) (fits (line_of gas input n) line turns) done,
      ) in
      whole ∙ ap (λ (h : ℕ). 2 * h * (input.plan.threads + 1)) (rows_high gas input is n 0);
}
