use Rattle.std.proofs.Common.{◌≡◌, ◌<◌, ◌≤◌, ℕ, ◌+◌, ◌-◌, ◌*◌, List, length, slice_index, inl, inr, ap, subst, ◌∙◌, arith, zero, suc, ◌^◌, Bool, if◌then◌else◌, false, sym}
use Rattle.std.proofs.lemmas.Bool.{cases_lt, cases_eq}
use Rattle.std.proofs.lemmas.List.{places}
use borrow.Rule.Slice.PartMut.{put_mid}
use Rattle.gas_bits.specs.Words.{words_in}
use Rattle.gas_bits.specs.Planes.{state, has}
use Rattle.gas_bits.proofs.Cells.{part_length, has_word}
use Rattle.gas_export.proofs.Written.{put-long, put-get, put-apart}
use Rattle.gas_geom.specs.Gas.{holds}
use Rattle.gas_geom.specs.Lattice.{set_of}
use Rattle.gas_geom.specs.Planes.{set_at, ZeroFrom}
use Rattle.gas_geom.proofs.Holds.{set_of-same, holds-zero}
use Rattle.gas_export.proofs.bytes.unpack_row.Goals as goal

-- planes that are zero hold nothing
narrowed : (m n : ℕ) (f : ℕ → Bool) → n ≤ m → ((i : ℕ) → n ≤ i → f i ≡ false) → set_of m f ≡ set_of n f
narrowed zero n f le none = ap (λ (k : ℕ). set_of k f) (let e : 0 ≡ n = omega arith in e)
narrowed (suc m) n f le none = elim (cases_eq n (suc m)) [
  | inl e ↦ ap (λ (k : ℕ). set_of k f) (sym e)
  | inr ne ↦ ap (λ (b : Bool). set_of m f + (if b then 2 ^ m else 0)) (none m (omega (arith, le, ne)))
      ∙ (let e : set_of m f + 0 ≡ set_of m f = omega arith in e) ∙ narrowed m n f (omega (arith, le, ne)) none
]

-- a cell of the word j of each plane, by eight planes
word-state : (words planes : List ℕ) (n dirs j b : ℕ) → dirs ≤ 8 → b < 64 → ((i : ℕ) → i < dirs → slice_index planes i ≡ slice_index words (i * n + j)) → ZeroFrom dirs planes
    → set_at 8 planes b ≡ state words n dirs (64 * j + b)
unfolding state
word-state words planes n dirs j b few hb each rest =
    narrowed 8 dirs (λ i. holds (slice_index planes i) b) few (λ i le. ap (λ w. holds w b) (rest i le) ∙ holds-zero b)
    ∙ set_of-same dirs (λ i. holds (slice_index planes i) b) (λ i. has words n i (64 * j + b))
    (λ i hi. ap (λ w. holds w b) (each i hi) ∙ sym (has_word words n i j b hb))

pub loop-j-preserved : goal.loop-j-preserved
loop-j-preserved c =
    let w : ℕ = c.args.width in
    let j : ℕ = c.loop-j.j in
    let bytes : List ℕ = c.loop-j.bytes in
    let new : List ℕ = c.copy_from_slice.new.self in
    let n : ℕ = c.min-end.result - 64 * j in
    let each : c.words_for-words_each.result ≡ words_in w = c.words_for-words_each.ensures.value in
    let long : length bytes ≡ w = c.loop-j.invariant.long ∙ c.requires.bytes in
    let in_words : j < words_in w = omega (arith, c.loop-j-test.true, c.loop-j.auto.j-end, each) in
    let some : 64 * j < w = omega (arith, in_words) in
    let within : 64 * j + n ≤ length bytes = omega (arith, c.min-end.ensures, long, some) in
    let wide : length new ≡ n = c.copy_from_slice.auto.self ∙ part_length bytes (64 * j) n within in
    record {
      long = put-long (64 * j) n bytes new wide within ∙ c.loop-j.invariant.long;
      unpacked = λ x lt in_row. elim (cases_lt x (64 * j)) [
        | inl before ↦ put-apart 0 (64 * j) n x bytes new wide within (inl before) ∙ c.loop-j.invariant.unpacked x before in_row
        | inr from ↦
            let b : ℕ = x - 64 * j in
            let at : 64 * j + b ≡ x = omega (arith, from) in
            let b_in : b < n = omega (arith, lt, in_row, from, c.min-end.ensures, long) in
            let b_lt : b < 64 = omega (arith, lt, from) in
            let copied = c.copy_from_slice.ensures.after in
            let taken : slice_index new b ≡ slice_index c.states_of-states.result b = grind (arith, places) in
            subst (λ u. slice_index (put_mid (64 * j) n bytes new) u ≡ state c.args.words.now (words_in w) c.args.planes u) at
            (put-get 0 (64 * j) n b bytes new wide within b_in ∙ taken ∙ c.states_of-states.ensures.states b b_lt
            ∙ word-state c.args.words.now c.planes_at.result c.words_for-words_each.result c.args.planes j b c.requires.planes b_lt c.planes_at.ensures.planes c.planes_at.ensures.rest
            ∙ ap (λ (k : ℕ). state c.args.words.now k c.args.planes (64 * j + b)) each)
      ];
    }
