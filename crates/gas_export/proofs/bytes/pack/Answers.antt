use Rattle.std.proofs.Common.{◌≡◌, ◌<◌, ℕ, ◌+◌, ◌-◌, ◌*◌, ◌/◌, List, take, drop, slice_index, ap, subst, ◌∙◌, arith, ◌^◌, true, false, length, nat_lt, inl, inr, sym}
use Rattle.std.specs.List.{list_all}
use Rattle.std.proofs.Math.Pow.{pow_pos}
use Rattle.std.proofs.lemmas.Bool.{cases_lt, false≢true}
use Rattle.std.proofs.lemmas.Bool.Decides.{nat_tests}
use Rattle.std.proofs.lemmas.List.{get_or_past}
use Rattle.std.proofs.lemmas.List.Folds.{list_all_at}
use Rattle.gas_geom.specs.Gas.{holds}
use Rattle.gas_bits.specs.Words.{words_in}
use Rattle.gas_bits.specs.Planes.{has}
use Rattle.gas_bits.proofs.Cells.{state-from}
use Rattle.gas_export.specs.Planes.{row_words}
use Rattle.gas_export.proofs.Written.{row-within, row-get, row-long, row-read, row-put, one-more}
use Rattle.gas_export.proofs.bytes.pack.Goals as goal

byte-lt : (planes k : ℕ) (bytes : List ℕ) → k < length bytes → list_all (λ b. nat_lt b (2 ^ planes)) bytes ≡ true → slice_index bytes k < 2 ^ planes
byte-lt planes k bytes within all = elim (cases_lt (slice_index bytes k) (2 ^ planes)) [
  | inl lt ↦ lt
  | inr le ↦
      let not_below : nat_lt (slice_index bytes k) (2 ^ planes) ≡ false = grind (arith, nat_tests) in
      absurd (false≢true (sym (list_all_at (λ b. nat_lt b (2 ^ planes)) bytes k 0 within not_below) ∙ all))
]

pub slice_bounds-load_states-end : goal.slice_bounds-load_states-end
slice_bounds-load_states-end c =
    let y : ℕ = c.loop-y.y in
    let many : c.args.planes * c.words_each-words_each.result ≡ c.args.planes * words_in c.args.size.width = ap (λ (k : ℕ). c.args.planes * k) c.words_each-words_each.ensures.value in
    omega (arith, c.loop-y.auto.words, c.requires.words, many, ap (λ (k : ℕ). y * k) many, row-within (c.args.planes * words_in c.args.size.width) c.args.size.height y (omega (arith, c.loop-y-test.true, c.height-y-end.ensures.value)))

pub loop-y-preserved : goal.loop-y-preserved
loop-y-preserved c =
    let w : ℕ = c.args.size.width in
    let y : ℕ = c.loop-y.y in
    let v : ℕ = c.width-width.result in
    let row : List ℕ = c.load_states.new.words in
    let in_rows : y < c.args.size.height = omega (arith, c.loop-y-test.true, c.height-y-end.ensures.value) in
    one-more c.loop-y.invariant
    (row-put 0 (c.args.planes * c.words_each-words_each.result) (c.args.planes * words_in w) c.args.size.height y c.loop-y.words row
    (ap (λ (k : ℕ). c.args.planes * k) c.words_each-words_each.ensures.value) (c.loop-y.auto.words ∙ c.requires.words) c.load_states.auto.words in_rows) in_rows
    (λ i x i_in lt.
    subst (λ (k : ℕ). x / 64 < k → has row k i x ≡ holds (slice_index (take (y * v + v - y * v) (drop (y * v) c.args.bytes.now)) x) i)
    c.words_each-words_each.ensures.value (c.load_states.ensures.loaded i x i_in) lt
    ∙ ap (λ bs. holds (slice_index bs x) i) (row-read v w y c.args.bytes.now c.width-width.ensures.value))

pub returns : goal.returns
returns c =
    let w : ℕ = c.args.size.width in
    let h : ℕ = c.args.size.height in
    let bytes : List ℕ = c.args.bytes.now in
    let planes : ℕ = c.args.planes in
    let row = λ (y : ℕ). row_words (planes * words_in w) c.loop-y.words y in
    let done = λ (i x y : ℕ) (i_in : i < planes) (lt : x < 64 * words_in w) (in_rows : y < h).
    c.loop-y.invariant.done y (omega (arith, in_rows, c.loop-y-test.false, c.height-y-end.ensures.value)) i x i_in (omega (arith, lt)) in
    record {
      packed = λ x y lt in_rows. state-from (row y) (words_in w) planes x (slice_index bytes (y * w + x))
          (byte-lt planes (y * w + x) bytes (omega (arith, c.requires.bytes, lt, row-within w h y in_rows)) c.requires.below)
          (λ i i_in. done i x y i_in (omega (arith, lt)) in_rows ∙ ap (λ b. holds b i) (row-get 0 w h y x bytes c.requires.bytes in_rows lt));
      clear = λ x y past lt in_rows. state-from (row y) (words_in w) planes x 0 (pow_pos planes)
          (λ i i_in. done i x y i_in lt in_rows
          ∙ ap (λ b. holds b i) (get_or_past (row_words w bytes y) x 0 (omega (arith, past, row-long w h y bytes c.requires.bytes in_rows))));
    }
