use Rattle.std.proofs.Common.{◌≡◌, ◌≤◌, ◌<◌, ℕ, ◌+◌, ◌-◌, ◌*◌, ◌%◌, [], ◌∷◌, ◌==◌, if◌then◌else◌, List, subst, length, get_or, inl, inr, refl, ap, ◌∙◌, sym, arith}
use Rattle.std.proofs.Math.Nat.{mod-eq_of_lt}
use Rattle.std.proofs.lemmas.Bool.{cases_eq}
use Rattle.std.proofs.lemmas.Bool.Decides.{nat_tests}
use Rattle.std.proofs.lemmas.Grind.{get_or-set_at}
use Rattle.std.proofs.lemmas.List.{get_or-set_other}
use Rattle.gas_geom.specs.Gas.{holds}
use Rattle.gas_geom.specs.Moves.{column_after}
use Rattle.gas_geom.specs.declared.moves.Move.TheVariants.{On}
use Rattle.gas_bits.specs.Words.{words_in, bit}
use Rattle.gas_bits.specs.Inner.Streamed.{AreBeside}
use Rattle.gas_bits.proofs.Fours.{each_lane}
use Rattle.gas_bits.proofs.Shifts.{moved-east}
use Rattle.gas_bits.proofs.Words.{bit-at}
use Rattle.gas_bits.proofs.stream.east_of.Goals.{then-inner-via-then-inner, then-inner-via-else-inner+then-j-n}
use Rattle.gas_bits.proofs.stream.east_of.Goals as goal

pub returns-then-inner : goal.returns-then-inner
returns-then-inner c = λ l hl b hb inside.
    let words = c.args.words.now in
    let j : ℕ = c.args.j in
    let width : ℕ = c.args.width in
    let more : j + 4 < words_in width = elim c.then-inner.branch [
      | then-inner-via-then-inner w ↦ c.requires.inner w.if-inner.true
      | then-inner-via-else-inner+then-j-n w ↦ omega (arith, w.if-j-n.true, c.words_for-n.ensures.value)
    ] in
    let next : 64 * (j + 1 + l) + 0 ≡ 64 * (j + l) + 63 + 1 = omega arith in
    moved-east (bit words) (holds (get_or c.args.here l 0)) _ width (j + l)
    (λ k hk. ap (λ w. holds w k) (c.requires.here l hl) ∙ sym (bit-at words (j + l) k hk)) 63 _ (omega arith) (omega (arith, more, hl))
    (ap (λ w. holds w 0) (c.four_of.ensures l hl) ∙ sym (bit-at words (j + 1 + l) 0 (omega arith))
    ∙ ap (bit words) (next ∙ sym (mod-eq_of_lt (omega (arith, more, hl)))))
    (c.four_from_east.ensures l hl) b (omega (arith, hb))

-- a word before the last one
before_last : (words here beside : List ℕ) (width j l b : ℕ) → ((k : ℕ) → k < 4 → get_or here k 0 ≡ get_or words (j + k) 0)
    → ((k : ℕ) → k < 4 → (b : ℕ) → b ≤ 63 → holds (get_or beside k 0) b
    ≡ (if b == 63 then holds (get_or (get_or here 1 0 ∷ get_or here 2 0 ∷ get_or here 3 0 ∷ 0 ∷ []) k 0) 0 else holds (get_or here k 0) (b + 1)))
    → l < 3 → j + l + 1 < words_in width → b < 64 → holds (get_or beside l 0) b ≡ bit words (column_after width (64 * (j + l) + b) On)
before_last words here beside width j l b read shifted hl below hb =
    let after : (k : ℕ) → k < 3 → j + k + 1 < words_in width → holds (get_or here (k + 1) 0) 0 ≡ bit words ((64 * (j + k) + 63 + 1) % width) = λ k hk lt.
    ap (λ w. holds w 0) (read (k + 1) (omega (arith, hk))) ∙ sym (bit-at words (j + (k + 1)) 0 (omega arith))
    ∙ ap (bit words) ((let next : 64 * (j + (k + 1)) + 0 ≡ 64 * (j + k) + 63 + 1 = omega arith in next) ∙ sym (mod-eq_of_lt (omega (arith, lt)))) in
    moved-east (bit words) (holds (get_or here l 0)) _ width (j + l)
    (λ k hk. ap (λ w. holds w k) (read l (omega (arith, hl))) ∙ sym (bit-at words (j + l) k hk)) 63 _ (omega arith) (omega (arith, below))
    (each_lane (λ k. k < 3 → j + k + 1 < words_in width → holds (get_or (get_or here 1 0 ∷ get_or here 2 0 ∷ get_or here 3 0 ∷ 0 ∷ []) k 0) 0 ≡ bit words ((64 * (j + k) + 63 + 1) % width))
    (after 0) (after 1) (after 2) (λ lt. absurd (omega (arith, lt))) l (omega (arith, hl)) hl below)
    (shifted l (omega (arith, hl))) b (omega (arith, hb))

-- the last word
last_word : (words : List ℕ) (width k : ℕ) (last : ℕ) → AreBeside words width On (length words - 1) last → k ≡ length words - 1 → AreBeside words width On k last
last_word words width k last is e = subst (λ m. AreBeside words width On m last) (sym e) is

pub returns-then-n-ge4 : goal.returns-then-n-ge4
returns-then-n-ge4 c = λ l hl b hb inside.
    let words = c.args.words.now in
    let j : ℕ = c.args.j in
    let width : ℕ = c.args.width in
    let n_is : c.words_for-n.result ≡ words_in width = c.words_for-n.ensures.value in
    let end : words_in width ≤ j + 4 = (let e = c.if-inner.false in grind (arith, nat_tests)) in
    let beside = c.four_from_east-2.result in
    let low : (k : ℕ) → k < 3 → k ≡ l → holds (get_or beside k 0) b ≡ bit words (column_after width (64 * (j + l) + b) On) = λ k hk e.
    before_last words c.args.here beside width j k b c.requires.here c.four_from_east-2.ensures hk (omega (arith, hk, n_is, c.if-n-ge4.true, c.requires.within, end)) hb
    ∙ ap (λ m. bit words (column_after width (64 * (j + m) + b) On)) e in
    each_lane (λ k. k ≡ l → holds (get_or (get_or beside 0 0 ∷ get_or beside 1 0 ∷ get_or beside 2 0 ∷ c.east_of_last-last.result ∷ []) k 0) b
    ≡ bit words (column_after width (64 * (j + l) + b) On))
    (low 0 (omega arith)) (low 1 (omega arith)) (low 2 (omega arith))
    (λ e. last_word words width (j + l) c.east_of_last-last.result c.east_of_last-last.ensures
    (omega (arith, e, n_is, c.if-n-ge4.true, c.requires.long, c.requires.within, end)) b hb inside) l hl refl

pub returns : goal.returns
returns c = λ l hl b hb inside.
    let words = c.args.words.now in
    let j : ℕ = c.args.j in
    let width : ℕ = c.args.width in
    let n : ℕ = c.words_for-n.result in
    let n_is : n ≡ words_in width = c.words_for-n.ensures.value in
    let few : n < 4 = omega (arith, c.if-n-ge4.false) in
    let beside = c.four_from_east-2.result in
    let at : ℕ = c.min.result in
    let at_is : at ≡ n - 1 = (let least = c.min.ensures in grind (arith, nat_tests)) in
    let first : j ≡ 0 = omega (arith, c.requires.within, few, n_is) in
    elim (cases_eq l at) [
      | inl e ↦
          ap (λ w. holds w b) (get_or-set_at beside at l c.east_of_last-last.result 0 e (omega (arith, e, hl)))
          ∙ last_word words width (j + l) c.east_of_last-last.result c.east_of_last-last.ensures (omega (arith, e, at_is, n_is, c.requires.long, first)) b hb inside
      | inr ne ↦
          ap (λ w. holds w b) (get_or-set_other beside at l c.east_of_last-last.result 0 ne)
          ∙ before_last words c.args.here beside width j l b c.requires.here c.four_from_east-2.ensures
          (omega (arith, ne, at_is, n_is, inside, few, first)) (omega (arith, ne, at_is, n_is, inside, few, first)) hb
    ]
