use Rattle.std.proofs.Common.{◌≡◌, ◌≤◌, ap, ◌∙◌, false, [], length, take, arith}
use Rattle.std.specs.Prelude.{nat_lt}
use Rattle.std.specs.Io.KnownBytes.{Appends}
use Rattle.gas_tool_io.specs.declared.output.Sink.TheInside.{Inside}
use Rattle.gas_tool_io.proofs.Sinks.{Adds-from, Adds-failed, Adds-handed}
use Rattle.gas_tool_io.proofs.output.Sink.hand_over.Goals as goal
use Rattle.gas_tool_io.proofs.output.Sink.hand_over.Goals.{then-self, else-self, then-self-2, else-self-2}

pub returns-clause-adds : goal.returns-clause-adds
returns-clause-adds g c = elim c.if-self-2.branch [
  | then-self-2 w ↦
      Adds-from _ _ _ _ _ _ c.self.view_is
      (Adds-failed _ _ _ _ [] (ap g.W.Write.contents w.out-is) (ap (λ (i : Inside). i.written) w.self-inside-is) (ap (λ (i : Inside). i.failed) w.self-inside-is))
  | else-self-2 w ↦
      let ok : c.self.inside.failed ≡ false = elim c.if-self.branch [ then-self v ↦ cc | else-self v ↦ v.if-self.false ] in
      let chunk : w.as_slice.result.now ≡ c.self.inside.chunk.items = w.as_slice.ensures.value in
      let within : w.send-sent.result ≤ length c.self.inside.chunk.items = omega (arith, w.send-sent.ensures.within, ap length chunk) in
      let out : Appends (g.W.Write.contents c.args.out.now) (g.W.Write.contents c.if-self-2.out) (take w.send-sent.result c.self.inside.chunk.items) =
      rw (w.out-is, ← chunk) w.send-sent.ensures.sent in
      Adds-from _ _ _ _ _ _ c.self.view_is
      (Adds-handed _ _ _ _ w.send-sent.result ok within out (ap (λ (i : Inside). i.written) w.self-inside-is)
      (ap (λ (i : Inside). i.failed) w.self-inside-is ∙ ap (nat_lt w.send-sent.result) w.len.ensures.value) c.clear.ensures)
]
