use Rattle.std.proofs.Common.{subst}
use mathlib.Core.List.{IsPrefix}
use Rattle.gas_pipe_model.specs.Pass.{line_of, after}
use Rattle.gas_pipe_model.proofs.Turns.{put_carried}
use Rattle.gas_pipe_model.proofs.Generations.{pass_is_line, pass_fits, carries}
use Rattle.gas_pipe_model.proofs.pass.pass_in_order.Goals as goal

pub returns : goal.returns
returns c = record {
  taken = λ gas input n turns k is. (pass_fits gas input is n turns).taken k;
  put = λ gas input n turns k is h.
      subst (IsPrefix ((after gas input n turns).put k)) (carries gas input is n k)
      (put_carried (line_of gas input n) (pass_is_line gas input is n) (after gas input n turns) (pass_fits gas input is n turns) k h);
}
