use Rattle.std.proofs.Common.{◌≡◌, ◌<◌, ℕ, Bool, true, false, if◌then◌else◌, refl, ap, ◌∙◌, arith}
use Rattle.std.proofs.lemmas.Bool.Decides.{nat_tests}
use Rattle.gas_geom.specs.Channel.{is_solid}
use Rattle.gas_geom.specs.Lattice.{streamed}
use Rattle.gas_geom.proofs.Held.{collide-empty}
use Rattle.gas_bits.specs.Words.{words_in, bit}
use Rattle.gas_bits.specs.Planes.{state}
use Rattle.gas_bits.proofs.Cells.{state-same}
use Rattle.gas_rows.specs.Inner.Streaming.{advanced_state}
use Rattle.gas_rows.proofs.stream.Kernel.write_row.Goals.{then-words_for-lt4, else-words_for-lt4}
use Rattle.gas_rows.proofs.stream.Kernel.write_row.Goals as goal

-- solid cells are empty after streaming, and stay so
emptied : (table : ℕ → Bool → ℕ) (none : (r : Bool) → table 0 r ≡ 0) (collides r solid : Bool) (s : ℕ) →
    (if collides then table (if solid then 0 else s) r else (if solid then 0 else s))
    ≡ (if collides then (if solid then 0 else table (if solid then 0 else s) r) else (if solid then 0 else s))
emptied table none false r solid s = refl
emptied table none true r true s = none r
emptied table none true r false s = refl

pub returns-clause-advanced : goal.returns-clause-advanced
returns-clause-advanced g c = λ ch at about x h.
    let gas = g.G.Gas.rules in
    let k = c.args.self.now in
    let n : ℕ = words_in k.rows.width in
    let out = c.if-words_for-lt4.out in
    let inside : x < k.rows.width = omega (arith, h, about.wide) in
    let kept : state c.clear_planes_past.new.words n gas.dirs x ≡ state out n gas.dirs x =
    state-same c.clear_planes_past.new.words out n gas.dirs x (λ i hi.
    let e = c.clear_planes_past.ensures.cleared i x (omega (arith, hi, c.directions.ensures.value)) (omega (arith, inside)) in grind (arith, nat_tests)) in
    let written : state out n gas.dirs x ≡ advanced_state gas k.collides (streamed gas ch at x k.rows.y) (bit k.chi.now x) =
    elim c.if-words_for-lt4.branch [
      | then-words_for-lt4 w ↦ ap (λ o. state o n gas.dirs x) w.out-is
          ∙ (let all = w.write_words.ensures.advanced ch at about x h in grind (arith, nat_tests))
      | else-words_for-lt4 w ↦ ap (λ o. state o n gas.dirs x) w.out-is
          ∙ (let middle = w.write_middle.ensures.advanced ch at about x h in let ends = w.write_ends.ensures.advanced ch at about x h in grind (arith, nat_tests))
    ] in
    kept ∙ written ∙ emptied gas.collide (collide-empty gas g.met.G.Gas.laws) k.collides (bit k.chi.now x) (is_solid ch x k.rows.y) _
