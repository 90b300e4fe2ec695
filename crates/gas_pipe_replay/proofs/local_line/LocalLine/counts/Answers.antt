use Rattle.std.proofs.Common.{◌≡◌, ◌+◌, [], length, map, ap, ◌∙◌, subst, arith}
use Rattle.std.specs.List.{range_with_len}
use Rattle.gas_pipe_model.specs.Pass.{after}
use Rattle.gas_pipe_replay.specs.Replay.{counts_of}
use Rattle.std.proofs.lemmas.List.{get_or_read, length_push}
use Rattle.gas_pipe_members.specs.Belt.{BeltModel}
use Rattle.gas_pipe_replay.specs.Inner.LocalLine.{belt}
use Rattle.gas_pipe_replay.proofs.Counted.{counts_more}
use Rattle.gas_pipe_replay.proofs.local_line.LocalLine.counts.Goals as goal

pub loop-k-preserved : goal.loop-k-preserved
loop-k-preserved g c = (
  omega (arith, length_push c.loop-k.counts.items (record { put = c.count_taken-taken.result + c.len-in-loop-k.result; taken = c.count_taken-taken.result }), ap length c.in_ok-push.ensures.items, c.loop-k.invariant.0),
  λ input turns sh.
      rw c.in_ok-push.ensures.items
      (counts_more g.G.Gas.rules input c.args.self.now.feeder c.args.self.now.workers.items c.args.self.now.belts.items (after g.G.Gas.rules input 0 turns) sh
      c.loop-k.k (omega (arith, c.loop-k-test.true, c.len-k-end.ensures, sh.belts_are)) c.loop-k.counts.items (c.loop-k.invariant.1 input turns sh)
      c.count_taken-taken.result c.len-in-loop-k.result (c.count_taken-taken.ensures.value input turns sh) (c.len-in-loop-k.ensures.value ∙ ap (λ (b : BeltModel). length b.rows) (let e : c.index.result.now ≡ belt c.args.self.now.belts.items c.loop-k.k = get_or_read c.args.self.now.belts.items c.loop-k.k c.index.result.now (omega (arith, c.loop-k-test.true, c.len-k-end.ensures)) c.index.ensures (record { rows = []; capacity = 0 }) in e))),
)

pub returns-clause-value : goal.returns-clause-value
returns-clause-value g c input turns sh =
    let e : c.loop-k.k ≡ input.plan.threads + 1 = omega (arith, c.loop-k-test.false, c.loop-k.auto.k-end, c.len-k-end.ensures, sh.belts_are) in
    subst (λ n. c.loop-k.counts.items ≡ map (counts_of (after g.G.Gas.rules input 0 turns)) (range_with_len 0 n)) e (c.loop-k.invariant.1 input turns sh)
