use Rattle.gas_pipe_members.proofs.Workers.{done_prefix, gave_most, closed_all}
use Rattle.gas_pipe_members.proofs.worker.a_pass_in_order.Goals as goal

pub returns : goal.returns
returns c = record {
  prefix = λ gas w es took gave done. done_prefix gas w es took gave done;
  few = λ gas w es took gave done. done.few;
  kept = λ gas w es took gave done. gave_most gas w es took gave done;
  closed = λ gas w closed es took gave done. (done.took_all closed.stages, closed_all gas w es took gave done closed);
}
