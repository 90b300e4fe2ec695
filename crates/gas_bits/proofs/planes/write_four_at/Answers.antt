use Rattle.std.proofs.Common.{◌≡◌, [], ◌+◌, ◌-◌, ◌*◌, ◌/◌, ◌%◌, ◌<◌, ◌≤◌, ◌&&◌, ◌⊎◌, not, inl, inr, take, drop, length, get_or, replicate, refl, ap, ap₂, ◌∙◌, sym, arith}
use Rattle.std.proofs.lemmas.Bool.{cases_eq, cases_lt}
use Rattle.std.proofs.lemmas.Bool.Decides.{nat_tests}
use Rattle.std.proofs.lemmas.List.{get_or_default}
use borrow.Rule.Slice.PartMut.{put_mid}
use Rattle.gas_geom.specs.Gas.{holds}
use Rattle.gas_bits.specs.Planes.{has, four_has}
use Rattle.gas_bits.proofs.Cells.{part_get, whole_plane}
use Rattle.gas_bits.proofs.PlaneWrites.{has-put_at, has-put_other_at}
use Rattle.gas_bits.proofs.Words.{bit-is}
use Rattle.gas_bits.proofs.planes.write_four_at.Goals as goal

pub loop-i-preserved : goal.loop-i-preserved
unfolding has
loop-i-preserved c k y hy =
    let n = c.args.words_each in
    let i = c.loop-i.i in
    let j = c.args.j in
    let old = c.loop-i.words in
    let new = c.put_four.new.words in
    let solid = c.args.solid in
    let fits : i * n + n ≤ length old = omega (arith, whole_plane n c.args.dirs i (omega arith)) in
    let before = c.loop-i.invariant k y hy in
    let l = y / 64 - j in
    elim (cases_eq k i) [
      | inl e ↦
          let written = ap (λ d. has (put_mid (i * n) (i * n + n - i * n) old new) n d y) e
          ∙ has-put_at old new n i y (i * n) (i * n + n - i * n) refl (omega arith) (omega arith) hy fits ∙ bit-is new y in
          let put = c.put_four.ensures (y / 64) hy in
          let same : (y < 64 * j) ⊎ (64 * j + 256 ≤ y) → has (put_mid (i * n) (i * n + n - i * n) old new) n k y ≡ has old n k y = λ out.
          written ∙ ap (λ w. holds w (y % 64))
          ((let e : get_or new (y / 64) 0 ≡ get_or (take (i * n + n - i * n) (drop (i * n) old)) (y / 64) 0 = grind (arith, nat_tests) in e)
          ∙ part_get old (i * n) (i * n + n - i * n) (y / 64) (omega (arith, hy)) (omega (arith, fits)))
          ∙ ap (λ d. has old n d y) (sym e) in
          let wrote : 64 * j ≤ y → y < 64 * j + 256 → has (put_mid (i * n) (i * n + n - i * n) old new) n k y
          ≡ (four_has c.args.planes k (y - 64 * j) && not (holds (get_or solid ((y - 64 * j) / 64) 0) (y % 64))) = λ ge lt.
          let lane : (y - 64 * j) / 64 ≡ l = omega (arith, ge) in
          let here : (y - 64 * j) % 64 ≡ y % 64 = omega (arith, ge) in
          written ∙ ap (λ w. holds w (y % 64))
          (let e : get_or new (y / 64) 0 ≡ get_or c.clear_four-four.result l 0 = grind (arith, nat_tests) in e)
          ∙ c.clear_four-four.ensures l (y % 64) (omega (arith, lt)) (omega arith)
          ∙ ap₂ (λ p q. p && not q)
          (ap (λ p. holds (get_or p l 0) (y % 64)) (get_or_default c.args.planes i [] (replicate 4 0) (omega arith))
          ∙ ap₂ (λ m b. holds (get_or (get_or c.args.planes i (replicate 4 0)) m 0) b) (sym lane) (sym here) ∙ ap (λ d. four_has c.args.planes d (y - 64 * j)) (sym e))
          (ap (λ m. holds (get_or solid m 0) (y % 64)) (sym lane)) in
          elim (cases_lt y (64 * j)) [
            | inl lt ↦ let s = same (inl lt) in grind (arith, nat_tests)
            | inr ge ↦ elim (cases_lt y (64 * j + 256)) [
              | inl lt ↦ let s = wrote ge lt in grind (arith, nat_tests)
              | inr past ↦ let s = same (inr past) in grind (arith, nat_tests)
            ]
          ]
      | inr ne ↦ let other = has-put_other_at old new n i k y (i * n) (i * n + n - i * n) refl (omega arith) (omega arith) hy fits ne in grind (arith, nat_tests)
    ]
