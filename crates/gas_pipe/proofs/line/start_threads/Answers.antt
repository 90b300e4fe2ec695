use Rattle.std.proofs.Common.{rules, sym, ap, ◌≡◌, ◌∙◌, ◌++◌, append-nil, map, [], List, arith}
use Rattle.std.proofs.lemmas.List.{nil_from_length}
use Rattle.std.specs.Vec.Iter.{into_iter_items}
use Rattle.gas_pipe.specs.Inner.Worker.{LineWorkerModel}
use Rattle.gas_pipe.specs.Inner.Links.{worker_of}
use Rattle.gas_pipe.proofs.line.start_threads.Goals as goal

pub returns : goal.returns
returns g c =
    let rest = c.loop-worker.worker-iterator.rest in
    let started = map worker_of c.loop-worker.threads.items in
    let first : into_iter_items c.into_iter-worker-iterator.result ≡ c.args.workers.items = search rules in
    let none : rest.items ≡ [] = nil_from_length rest.items (omega (arith, rest.ok, c.in-None.ensures.steps.0)) in
    sym (append-nil started) ∙ ap (λ (l : List LineWorkerModel). started ++ l) (sym none) ∙ c.loop-worker.invariant.workers ∙ first
