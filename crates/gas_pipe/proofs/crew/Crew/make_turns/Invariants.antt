use Rattle.gas_pipe_model.specs.Pass.{RunInputModel}
use Rattle.gas_pipe.specs.Inner.Crew.{CrewHasCome, SameCrew}
use Rattle.gas_pipe.proofs.crew.Crew.make_turns.Given as goal

abbrev pub invariant-loop : goal.invariant-loop
invariant-loop g l = record {
  come : (input : RunInputModel) → CrewHasCome g.G.Gas.rules input l.initial.self → CrewHasCome g.G.Gas.rules input l.self;
  same : SameCrew l.initial.self l.self;
}
