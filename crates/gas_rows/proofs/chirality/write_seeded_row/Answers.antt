use Rattle.std.proofs.Common.{◌≡◌, ◌+◌, ◌*◌, ◌/◌, ◌%◌, Bool, false, List, length, ap, ap₂, ◌∙◌}
use Rattle.std.proofs.lemmas.List.FromFn.{length-map-range_with_len}
use Rattle.rand_chacha.specs.ChaCha.{ChaCha, word_at}
use Rattle.std.specs.Int.{div_ceil}
use Rattle.gas_geom.specs.Gas.{holds}
use Rattle.gas_rows.specs.Chirality.{chirality_bit}
use Rattle.gas_rows.specs.declared.chirality.Chirality.TheVariants.{Seeded, Left, Right}
use Rattle.gas_rows.specs.Key.{key_word}
use Rattle.gas_rows.proofs.Rows.{row_of-same}
use Rattle.gas_rows.proofs.chirality.write_seeded_row.Goals as goal

pub returns-clause-wide : goal.returns-clause-wide
returns-clause-wide c = ap (λ (cells : List Bool). length cells) c.draw.ensures.cells ∙ length-map-range_with_len _ 0 _

pub returns-clause-bits : goal.returns-clause-bits
unfolding key_word
returns-clause-bits c Left none = absurd none
returns-clause-bits c Right none = absurd none
returns-clause-bits c (Seeded seed) key =
    let width = length c.args.out.now in
    let first_is : c.from.result * c.from-2.result ≡ c.args.y * div_ceil width 32 =
    ap₂ (λ a b. a * b) c.from.ensures (c.from-2.ensures ∙ c.div_ceil-key_words.ensures ∙ ap (λ w. div_ceil w 32) c.width.ensures.value) in
    c.draw.ensures.cells
    ∙ row_of-same false width _ (λ x. chirality_bit (Seeded seed) width c.args.generation x c.args.y)
    (λ x h.
    ap (λ (g : ChaCha). holds (word_at 10 g.key g.stream (g.word_pos + x / 32)) (x % 32)) c.seek.ensures.sought
    ∙ ap₂ (λ k first. holds (word_at 10 k c.args.generation (first + x / 32)) (x % 32)) key first_is)
