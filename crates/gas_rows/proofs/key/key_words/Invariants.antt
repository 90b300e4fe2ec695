use Rattle.std.proofs.Common.{◌≡◌, ℕ, ◌+◌, ◌<◌, slice_index}
use Rattle.rand_chacha.specs.ChaCha.{key_of}
use Rattle.gas_rows.specs.Key.{key_word, key_bytes}
use Rattle.gas_rows.proofs.key.key_words.Given as goal

abbrev pub invariant-loop-word : goal.invariant-loop-word
invariant-loop-word l = record {
  key_is : l.generator.key ≡ key_of (key_bytes l.seed);
  stream_is : l.generator.stream ≡ l.stream;
  place_is : l.generator.word_pos ≡ l.first + l.word-index;
  done : (k : ℕ) → k < l.word-index → slice_index l.out k ≡ key_word l.seed l.stream (l.first + k);
}
