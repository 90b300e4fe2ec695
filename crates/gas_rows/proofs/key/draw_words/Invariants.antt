use Rattle.std.proofs.Common.{◌≡◌, ℕ, ◌+◌, ◌*◌, ◌/◌, ◌%◌, ◌<◌}
use Rattle.rand_chacha.specs.ChaCha.{word_at}
use Rattle.gas_geom.specs.Gas.{holds}
use Rattle.gas_bits.specs.Words.{bit}
use Rattle.gas_rows.proofs.key.draw_words.Given as goal

-- the words before j are written, and the generator stands at the first half of word j
abbrev pub invariant-loop-j : goal.invariant-loop-j
invariant-loop-j l = record {
  key_is : l.generator.key ≡ l.initial.generator.key;
  stream_is : l.generator.stream ≡ l.initial.generator.stream;
  place_is : l.generator.word_pos ≡ l.initial.generator.word_pos + 2 * l.j;
  done : (x : ℕ) → x / 64 < l.j → x < l.width →
      bit l.words x ≡ holds (word_at 10 l.initial.generator.key l.initial.generator.stream (l.initial.generator.word_pos + x / 32)) (x % 32);
}
