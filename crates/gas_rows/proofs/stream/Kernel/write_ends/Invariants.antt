use Rattle.std.proofs.Common.{◌≡◌, ◌*◌, ℕ, length}
use Rattle.gas_geom.specs.Channel.{ChannelModel}
use Rattle.gas_bits.specs.Words.{words_in}
use Rattle.gas_rows.specs.Streaming.{AreWordsAbout}
use Rattle.gas_rows.specs.Inner.Streaming.{AreEndsAdvanced}
use Rattle.gas_rows.proofs.stream.Kernel.write_ends.Given as goal

-- k of the ends are written
abbrev pub invariant-loop-k : goal.invariant-loop-k
invariant-loop-k g l = record {
  long : length l.out ≡ g.G.Gas.rules.dirs * words_in l.self.rows.width;
  written : (channel : ChannelModel) (at : ℕ → ℕ → ℕ) → AreWordsAbout g.G.Gas.rules.dirs channel at l.self.rows →
      AreEndsAdvanced g.G.Gas.rules channel at l.self l.k l.fn.out l.out;
}
