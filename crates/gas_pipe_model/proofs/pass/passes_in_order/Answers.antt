use Rattle.gas_pipe_model.proofs.Generations.{begins_first, begins_next}
use Rattle.gas_pipe_model.proofs.pass.passes_in_order.Goals as goal

pub returns : goal.returns
returns c = record {
  first = λ gas input is. begins_first gas input is.workers;
  next = λ gas input n is. begins_next gas input is.workers n;
}
