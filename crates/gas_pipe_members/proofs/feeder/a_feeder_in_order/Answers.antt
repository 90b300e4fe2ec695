use Rattle.std.proofs.Common.{arith}
use Rattle.gas_pipe_members.proofs.Feeds.{fed_taken, fed_given, fed_last}
use Rattle.gas_pipe_members.proofs.feeder.a_feeder_in_order.Goals as goal

pub returns : goal.returns
returns c = record {
  prefix = λ f passes rows gave took h. (f.rows, h.queue);
  few = λ f passes rows gave took h. omega (arith, h.puts);
  put_all = λ f passes rows gave took h over. fed_given f passes rows gave took h over;
  taken_all = λ f passes rows gave took h over. fed_taken f passes rows gave took h over;
  holds = λ f n rows gave took h high over. fed_last f n rows gave took h high over;
}
