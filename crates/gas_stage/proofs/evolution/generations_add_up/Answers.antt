use Rattle.gas_stage.proofs.Additions.{lattice_after-add}
use Rattle.gas_stage.proofs.evolution.generations_add_up.Goals as goal

pub returns : goal.returns
returns c = record { law = lattice_after-add }
