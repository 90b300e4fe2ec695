use Rattle.std.proofs.Common.{◌≡◌, ◌+◌, ◌*◌, ◌/◌, ℕ, ◌&&◌, true, nat_lt, ap, ap₂, sym, ◌∙◌, arith, ◌%◌, List}
use Rattle.std.specs.Int.{div_ceil}
use Rattle.std.proofs.lemmas.Bool.Decides.{nat_tests}
use Rattle.rand_chacha.specs.ChaCha.{ChaCha, key_of, word_at}
use Rattle.gas_geom.specs.Gas.{holds}
use Rattle.gas_bits.specs.Words.{bit}
use Rattle.gas_rows.specs.Key.{drawn_bit, key_bytes, key_word}
use Rattle.gas_rows.specs.declared.chirality.Chirality.TheVariants.{Seeded}
use Rattle.gas_export.specs.Part.{part_bit}
use Rattle.gas_export.proofs.draw.Source.draw_row.Goals as goal

-- what is drawn there is the bit of the part
drawn-part : (seed : ℕ) (new : List ℕ) (width row g x y : ℕ) (before at : ChaCha) → before.key ≡ key_of (key_bytes seed)
    → at ≡ record before { stream = g; word_pos = (row + y) * div_ceil width 32 } → bit new x ≡ drawn_bit at x
    → bit new x ≡ part_bit (Seeded seed) width row g x y
unfolding key_word
drawn-part seed new width row g x y before at source at_is drawn =
    drawn ∙ ap (λ (q : ChaCha). drawn_bit q x) at_is
    ∙ ap (λ (k : List ℕ). holds (word_at 10 k g ((row + y) * div_ceil width 32 + x / 32)) (x % 32)) source

pub returns-clause-collisions : goal.returns-clause-collisions
returns-clause-collisions g c = λ s x lt.
    let self = c.args.self in
    let width : ℕ = c.args.size.width in
    let seed : ℕ = c.in-Seeded.field-0 in
    let within : nat_lt x c.width-2.result ≡ true = grind (arith, nat_tests) in
    let place : (c.from.result + c.from-2.result) * c.from-key_words.result ≡ (self.first_row + c.args.y) * div_ceil width 32 =
    ap₂ (λ (a b : ℕ). a * b) (ap₂ (λ (a b : ℕ). a + b) c.from.ensures c.from-2.ensures) (c.from-key_words.ensures ∙ c.div_ceil.ensures ∙ ap (λ n. div_ceil n 32) c.width.ensures.value) in
    ap (g.G.Gas.rules.collide s)
    (drawn-part seed c.draw.new.words width self.first_row c.args.generation x c.args.y
    c.args.generator.now c.seek.new.generator (c.requires.ready.seeded seed c.in-Seeded.is)
    (c.seek.ensures.sought ∙ ap (λ p. record c.args.generator.now { stream = c.args.generation; word_pos = p }) place)
    (c.draw.ensures.bits x ∙ ap (λ t. t && drawn_bit c.seek.new.generator x) within)
    ∙ ap (λ h. part_bit h width self.first_row c.args.generation x c.args.y) (sym c.in-Seeded.is))
