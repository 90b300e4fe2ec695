use Rattle.std.proofs.Common.{◌≡◌, ◌<◌, ◌≤◌, ◌+◌, ◌*◌, ◌%◌, ℕ, true}
use Rattle.gas_bits.specs.Words.{words_in}
use Rattle.gas_layout.specs.Layout.{channel_of}
use Rattle.gas_export.specs.Planes.{row_words, state_at, solid_at}
use Rattle.gas_export.specs.Inner.{AreFluidAbove, bit_of, IsReady, passed}
use Rattle.gas_export.proofs.step.Channel.sweep.Given as goal

-- of the rows above y the last two are kept, and those above the last one have gone out
abbrev pub invariant-loop-y : goal.invariant-loop-y
invariant-loop-y g l = record {
  fluid : AreFluidAbove l.self.size.width l.self.solid.now (l.y + 1) l.fluid;
  near : IsReady l.fn.source.chirality l.near.key l.self.size.width l.bits;
  far : IsReady l.fn.source.chirality l.far.key l.self.size.width l.bits;
  fresh : (k : ℕ) → l.y ≤ k + 1 → k < l.self.size.height
      → row_words (g.G.Gas.rules.dirs * words_in l.self.size.width) l.states k ≡ row_words (g.G.Gas.rules.dirs * words_in l.self.size.width) l.initial.states k;
  hit : (before : ℕ → ℕ → ℕ)
      → ((x y : ℕ) → x < l.self.size.width → y < l.self.size.height → state_at g.G.Gas.rules.dirs l.self.size.width l.initial.states x y ≡ before x y)
      → (x k : ℕ) → x < l.self.size.width → k < l.y → l.y ≤ k + 2 → state_at g.G.Gas.rules.dirs l.self.size.width l.kept x (k % 3)
      ≡ passed g.G.Gas.rules (channel_of l.self.size.width l.self.size.height (solid_at l.self.size.width l.self.solid.now)) (bit_of l.fn.source l.self.size.width l.generation) l.collided true before x k;
  gone : (before between : ℕ → ℕ → ℕ)
      → ((x y : ℕ) → x < l.self.size.width → y < l.self.size.height → state_at g.G.Gas.rules.dirs l.self.size.width l.initial.states x y ≡ before x y)
      → ((x y : ℕ) → x < l.self.size.width → y < l.self.size.height
      → passed g.G.Gas.rules (channel_of l.self.size.width l.self.size.height (solid_at l.self.size.width l.self.solid.now)) (bit_of l.fn.source l.self.size.width l.generation) l.collided true before x y ≡ between x y)
      → (x k : ℕ) → x < l.self.size.width → k + 1 < l.y → state_at g.G.Gas.rules.dirs l.self.size.width l.states x k
      ≡ passed g.G.Gas.rules (channel_of l.self.size.width l.self.size.height (solid_at l.self.size.width l.self.solid.now)) (bit_of l.fn.source l.self.size.width (l.generation + 1)) true l.collides between x k;
}
