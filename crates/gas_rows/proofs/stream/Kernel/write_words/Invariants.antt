use Rattle.std.proofs.Common.{◌≡◌, ◌*◌, ℕ, length}
use Rattle.gas_geom.specs.Channel.{ChannelModel}
use Rattle.gas_bits.specs.Words.{words_in}
use Rattle.gas_rows.specs.Streaming.{AreWordsAbout}
use Rattle.gas_rows.specs.Inner.Streaming.{AreAdvanced}
use Rattle.gas_rows.proofs.stream.Kernel.write_words.Given as goal

-- the words before word j are written
abbrev pub invariant-loop-j : goal.invariant-loop-j
invariant-loop-j g l = record {
  long : length l.out ≡ g.G.Gas.rules.dirs * words_in l.self.rows.width;
  written : (channel : ChannelModel) (at : ℕ → ℕ → ℕ) → AreWordsAbout g.G.Gas.rules.dirs channel at l.self.rows →
      AreAdvanced g.G.Gas.rules channel at l.self 0 l.j l.fn.out l.out;
}
