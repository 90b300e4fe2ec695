use Rattle.gas_pipe_model.proofs.Generations.{pass_fits}
use Rattle.gas_pipe_model.proofs.pass.pass_under_way.Goals as goal

pub returns : goal.returns
returns c = record { room = λ gas input n turns k is. (pass_fits gas input is n turns).under_way k }
