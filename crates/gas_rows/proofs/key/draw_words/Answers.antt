use Rattle.std.proofs.Common.{◌≡◌, ℕ, ◌+◌, ◌*◌, ◌/◌, ◌%◌, ◌^◌, ◌<◌, List, length, ap, ap₂, ◌∙◌, arith, refl}
use Rattle.rand_chacha.specs.Block.{block_word}
use Rattle.rand_chacha.specs.ChaCha.{ChaCha, word_at}
use Rattle.gas_geom.specs.Gas.{holds}
use Rattle.gas_rows.proofs.Masks.{holds-joined, join-more}
use Rattle.gas_rows.proofs.key.draw_words.Goals as goal

remainder-lt : (a : ℕ) → a % 2 ^ 32 < 2 ^ 32
remainder-lt a = omega arith

word_at-lt : (key : List ℕ) (stream place : ℕ) → word_at 10 key stream place < 2 ^ 32
unfolding block_word
word_at-lt key stream place = remainder-lt _

-- the word at a place of a generator of the same stream
word_here : (start g : ChaCha) (here place : ℕ) → g.key ≡ start.key → g.stream ≡ start.stream → here ≡ place
    → word_at 10 g.key g.stream here ≡ word_at 10 start.key start.stream place
word_here start g here place key stream pos =
    ap (λ k. word_at 10 k g.stream here) key ∙ ap (λ s. word_at 10 start.key s here) stream ∙ ap (word_at 10 start.key start.stream) pos

pub loop-j-preserved : goal.loop-j-preserved
loop-j-preserved c =
    let start : ChaCha = c.args.generator.now in
    let g : ChaCha = c.loop-j.generator in
    let j : ℕ = c.loop-j.j in
    let before = c.loop-j.invariant in
    let half : ℕ → ℕ = λ i. word_at 10 start.key start.stream (start.word_pos + i) in
    let within : j < length c.loop-j.words = omega arith in
    let place : g.word_pos ≡ start.word_pos + 2 * j = before.place_is in
    let next : (g.word_pos + 1) % 2 ^ 68 ≡ start.word_pos + (2 * j + 1) = omega (arith, place, within, c.requires.places) in
    let value : c.next_u64_via_u32.result ≡ half (2 * j) + half (2 * j + 1) * 2 ^ 32 =
    ap (λ p. p.0) c.next_u64_via_u32.ensures
    ∙ ap₂ (λ low high. low + high * 2 ^ 32) (word_here start g g.word_pos (start.word_pos + 2 * j) before.key_is before.stream_is place)
    (word_here start g ((g.word_pos + 1) % 2 ^ 68) (start.word_pos + (2 * j + 1)) before.key_is before.stream_is next) in
    record {
      key_is = ap (λ p. p.1.key) c.next_u64_via_u32.ensures ∙ before.key_is;
      stream_is = ap (λ p. p.1.stream) c.next_u64_via_u32.ensures ∙ before.stream_is;
      place_is = ap (λ p. p.1.word_pos) c.next_u64_via_u32.ensures ∙ omega (arith, next, within, c.requires.places);
      done = join-more c.loop-j.words half c.args.width j (half (2 * j)) (half (2 * j + 1)) c.next_u64_via_u32.result within refl (λ _. refl)
          (λ b _. ap (λ w. holds w b) value ∙ holds-joined (half (2 * j)) (half (2 * j + 1)) b (word_at-lt start.key start.stream (start.word_pos + 2 * j)))
          before.done;
    }

pub returns-then-halves-eq1-clause-bits : goal.returns-then-halves-eq1-clause-bits
returns-then-halves-eq1-clause-bits c x lt =
    let start : ChaCha = c.args.generator.now in
    let g : ChaCha = c.loop-j.generator in
    let j : ℕ = c.div_ceil-halves.result / 2 in
    let before = c.loop-j.invariant in
    let half : ℕ → ℕ = λ i. word_at 10 start.key start.stream (start.word_pos + i) in
    let ended : c.loop-j.j ≡ j = omega arith in
    let place : g.word_pos ≡ start.word_pos + 2 * j = omega (arith, before.place_is, ended) in
    let value : c.from.result ≡ half (2 * j) =
    c.from.ensures ∙ ap (λ p. p.0) c.next_word.ensures
    ∙ word_here start g g.word_pos (start.word_pos + 2 * j) before.key_is before.stream_is place in
    let alone : half (2 * j) ≡ half (2 * j) + 0 * 2 ^ 32 = omega arith in
    join-more c.loop-j.words half c.args.width j (half (2 * j)) 0 c.from.result (omega arith) refl (λ more. absurd (omega (arith, more)))
    (λ b _. ap (λ w. holds w b) (value ∙ alone) ∙ holds-joined (half (2 * j)) 0 b (word_at-lt start.key start.stream (start.word_pos + 2 * j)))
    (λ y h. before.done y (omega (arith, ended, h))) x (omega (arith, lt)) lt
