-- The key stream: ChaCha20 with the block function of RFC 8439, a 64-bit stream number and 20 rounds.
use Rattle.std.specs.Prelude.{ℕ, ◌+◌, ◌/◌, ◌%◌, Bool, List, ◌++◌, replicate}
use Rattle.std.specs.Int.{w64, to_le_bytes}
use Rattle.rand_chacha.specs.ChaCha.{ChaCha, word_at, key_of}
use Rattle.gas_geom.specs.Gas.{holds}

-- the key of a seed: its 8 bytes, the least first, and 24 zero bytes
abbrev pub key_bytes : ℕ → List ℕ
key_bytes seed = to_le_bytes w64 seed ++ replicate 24 0

-- the 32-bit word at a place of a stream under a seed's key; 10 double rounds are the 20 of ChaCha20
unfoldable pub key_word : ℕ → ℕ → ℕ → ℕ
key_word seed stream place = word_at 10 (key_of (key_bytes seed)) stream place

-- bit x of those that come next, 32 to a word of the key stream, the least first
abbrev pub drawn_bit : ChaCha → ℕ → Bool
drawn_bit generator x =
    holds (word_at 10 generator.key generator.stream (generator.word_pos + x / 32)) (x % 32)
