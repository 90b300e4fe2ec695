use Rattle.std.proofs.Common.{◌≡◌, length, map}
use Rattle.gas_pipe.specs.Inner.Worker.{job_of, IsUnused}
use Rattle.gas_pipe.specs.Inner.Links.{Linked, last_belt, AllHaveCome}
use Rattle.gas_pipe.proofs.line.make_line.Given as goal

abbrev pub invariant-loop-number : goal.invariant-loop-number
invariant-loop-number g l = record {
  leads : Linked l.fn.input 0 l.initial.last.belt (map job_of l.workers.items);
  end : last_belt l.initial.last.belt (map job_of l.workers.items) ≡ l.last.belt;
  count : length (map job_of l.workers.items) ≡ l.number;
  come : AllHaveCome g.G.Gas.rules l.workers.items;
  unused : IsUnused l.fn.input l.last;
}
