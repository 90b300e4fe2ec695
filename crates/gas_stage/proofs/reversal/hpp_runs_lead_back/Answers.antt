use Rattle.std.proofs.Common.{refl}
use Rattle.gas_stage.proofs.reversal.hpp_runs_lead_back.Goals as goal

pub returns : goal.returns
returns c = record { any = c.runs_lead_back.ensures.any refl }
