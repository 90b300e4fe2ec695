use Rattle.std.proofs.Common.{◌∙◌, ap, Bool, List, length, get_or, false, if◌then◌else◌}
use Rattle.gas_geom.specs.Lattice.{row_of}
use Rattle.gas_pipe_members.proofs.feeder.empty_solid.Goals as goal

pub returns-clause-emptied : goal.returns-clause-emptied
returns-clause-emptied g c =
    c.empty_solid.ensures.emptied
    ∙ ap (λ (solid : List Bool). row_of (length c.args.row.now) (λ x. if get_or solid x false then 0 else get_or c.args.row.now x 0)) c.mask.ensures.row
