use Rattle.std.proofs.Common.{◌≡◌, ◌∙◌, ap, sym, subst, false, append-nil}
use Rattle.gas_tool_io.specs.Inner.Sink.{SinkModel, HasSent}
use Rattle.gas_tool_io.proofs.Sinks.{HasSent-whole}
use Rattle.gas_tool_io.proofs.output.Sink.finish.Goals as goal

pub returns : goal.returns
returns g c start text carried =
    let ok : c.hand_over.new.self.failed ≡ false = ap (λ (s : SinkModel). s.failed) (sym c.self.view_is) ∙ c.if-self.false in
    let all = subst (HasSent start _ _) (append-nil text) (c.hand_over.ensures.adds.adds start text carried) in
    HasSent-whole start _ _ _ text all ok c.hand_over.ensures.empty c.flush.ensures.bytes
