use Rattle.gas_pipe_model.proofs.PlanCircle.{round}
use Rattle.gas_pipe_model.proofs.pass.rows_return.Goals as goal

pub returns : goal.returns
returns c = record { round = λ gas input n is. round gas input is n }
