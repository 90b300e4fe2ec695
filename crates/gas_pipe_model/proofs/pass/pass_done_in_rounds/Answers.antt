use Rattle.std.proofs.Common.{◌+◌, ◌*◌, ℕ, sym, subst}
use Rattle.gas_pipe_model.specs.Line.{HasRounds}
use Rattle.gas_pipe_model.specs.Pass.{line_of}
use Rattle.gas_pipe_model.proofs.Rounds.{done_after}
use Rattle.gas_pipe_model.proofs.Generations.{pass_is_line, rows_high}
use Rattle.gas_pipe_model.proofs.pass.pass_done_in_rounds.Goals as goal

pub returns : goal.returns
returns c = record {
  done = λ gas input n turns is h.
      done_after (line_of gas input n) (pass_is_line gas input is n) turns
      (subst (λ (m : ℕ). HasRounds input.plan.threads (2 * m * (input.plan.threads + 1)) turns) (sym (rows_high gas input is n 0)) h);
}
