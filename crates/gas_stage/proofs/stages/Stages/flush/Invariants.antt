use Rattle.std.proofs.Common.{◌≡◌, length, List, Option, ℕ}
use Rattle.gas_stage.specs.Inner.Stages.{IsUnderWay}
use Rattle.gas_stage.specs.Stages.{MayEachHaveBeenFed, given_by}
use Rattle.gas_stage.proofs.stages.Stages.flush.Given as goal

abbrev pub invariant-loop-k : goal.invariant-loop-k
invariant-loop-k g l = record {
  count : length l.self-inside.stages.items ≡ length l.initial.self-inside.stages.items;
  channel : l.self-inside.channel.now ≡ l.initial.self-inside.channel.now;
  chirality : l.self-inside.chirality ≡ l.initial.self-inside.chirality;
  fed : l.self-inside.fed ≡ l.initial.self-inside.fed;
  entry_bits : l.self-inside.entry_bits ≡ l.initial.self-inside.entry_bits;
  scratch : length l.self-inside.scratch ≡ length l.initial.self-inside.scratch;
  flushed : l.self-inside.flushed ≡ l.k;
  way : IsUnderWay g.G.Gas.rules l.initial.self-inside.channel.now l.initial.self-inside.chirality l.k l.initial.self-inside.fed l.self-inside.stages.items;
  fits : (es : List (Option ℕ)) (q : List (List ℕ)) →
      MayEachHaveBeenFed g.G.Gas.rules l.initial.self-inside.channel.now l.initial.self-inside.chirality l.initial.self-inside.flushed l.initial.self-inside.stages.items es q →
      length q ≡ l.initial.self-inside.channel.now.height →
      MayEachHaveBeenFed g.G.Gas.rules l.initial.self-inside.channel.now l.initial.self-inside.chirality l.k l.self-inside.stages.items es q;
  gives : (es : List (Option ℕ)) (q : List (List ℕ)) →
      MayEachHaveBeenFed g.G.Gas.rules l.initial.self-inside.channel.now l.initial.self-inside.chirality l.initial.self-inside.flushed l.initial.self-inside.stages.items es q →
      length q ≡ l.initial.self-inside.channel.now.height →
      given_by g.G.Gas.rules l.initial.self-inside.channel.now l.initial.self-inside.chirality l.k es q
      ≡ given_by g.G.Gas.rules l.initial.self-inside.channel.now l.initial.self-inside.chirality l.initial.self-inside.flushed es q;
}
