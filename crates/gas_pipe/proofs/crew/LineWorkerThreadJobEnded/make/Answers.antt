use Rattle.std.proofs.Common.{[]}
use Rattle.gas_pipe.proofs.crew.LineWorkerThreadJobEnded.make.Goals as goal

-- a crew without a feeder fits every input
pub run-requires : goal.run-requires
run-requires g c =
    let w = c.args.self in
    let stages = w.worker.stages in
    record {
      come = (
        record { lattice = record { channel = stages.channel; rows = [] }; chirality = stages.chirality; first = w.first; plan = w.plan },
        record { feeder = tt; worker = c.requires },
      );
    }
