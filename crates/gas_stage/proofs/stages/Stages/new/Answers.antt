use Rattle.std.proofs.Common.{length, ap, ◌∙◌, arith}
use Rattle.std.proofs.lemmas.List.{length_push, length-replicate}
use Rattle.gas_stage.proofs.Composed.{closed-push}
use Rattle.gas_stage.proofs.stages.Stages.new.Goals as goal

pub loop-preserved : goal.loop-preserved
loop-preserved g c =
    rw c.in_ok-push.ensures.items (record {
      count = omega (arith, c.loop.invariant.count, length_push c.loop.stages.items c.in_ok-new.field-0);
      closed = closed-push g.G.Gas.rules c.args.channel.now c.args.chirality c.loop.stages.items c.in_ok-new.field-0 c.loop.invariant.closed
          c.in_ok-new.ensures.channel c.in_ok-new.ensures.chirality c.in_ok-new.ensures.closed;
      few_rows = λ _. c.in_ok-new.ensures.whole.size.few_rows;
    })

pub invariant_of-result : goal.invariant_of-result
invariant_of-result g c = record {
  some = omega (arith, c.loop.invariant.count);
  few = omega (arith, c.loop.invariant.count);
  few_rows = c.loop.invariant.few_rows (omega arith);
  entry_bits_wide = c.in_ok-new-2.ensures.wide ∙ c.width-width.ensures.value ∙ c.size.ensures.width;
  entry_bits_alike = c.in_ok-new-2.ensures.chirality;
  scratch_wide = ap length c.in_ok-blank.ensures.value ∙ length-replicate _ 0 ∙ c.width-width.ensures.value ∙ c.size.ensures.width;
  fed_fits = omega arith;
  flushed_fits = omega (arith, c.len.ensures);
  closed = λ _. c.loop.invariant.closed;
  under_way = λ below. absurd (omega (arith, c.len.ensures, below));
}
