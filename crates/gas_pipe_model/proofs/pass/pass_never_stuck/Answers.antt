use Rattle.gas_pipe_model.specs.Pass.{line_of, after}
use Rattle.gas_pipe_model.proofs.Progress.{progress}
use Rattle.gas_pipe_model.proofs.Generations.{pass_is_line, pass_fits}
use Rattle.gas_pipe_model.proofs.pass.pass_never_stuck.Goals as goal

pub returns : goal.returns
returns c = record {
  mover = λ gas input n turns is not_done.
      let mover = progress (line_of gas input n) (after gas input n turns) (pass_is_line gas input is n) (pass_fits gas input is n turns) not_done in
      (mover.who, (mover.in_line, mover.moves));
}
