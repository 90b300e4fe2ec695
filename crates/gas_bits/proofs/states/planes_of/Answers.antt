use Rattle.std.proofs.Common.{◌≡◌, ◌∙◌, ℕ, ◌<◌, get_or, length, length-set, sym, ap, refl, arith, inl, inr}
use Rattle.std.proofs.lemmas.Bool.{cases_lt}
use Rattle.std.proofs.lemmas.Grind.{common_steps}
use Rattle.std.proofs.lemmas.List.{get_or_past}
use Rattle.std.proofs.lemmas.Simd.{get_or-replicate}
use Rattle.gas_geom.specs.Gas.{holds}
use Rattle.gas_bits.proofs.states.planes_of.Goals as goal

pub loop-b-init : goal.loop-b-init
loop-b-init c = record {
  long = refl;
  done = λ k h. absurd (omega (arith, h));
  rest = λ k h small. get_or-replicate 64 k 0 0 small;
}

pub loop-i-preserved : goal.loop-i-preserved
loop-i-preserved c =
    let states = c.args.states.now in
    let cell : (k : ℕ) → k < 64 → get_or c.loop-b.cells k 0 ≡ get_or states k 0 = λ k small. elim (cases_lt k (length states)) [
      | inl within ↦ c.loop-b.invariant.done k (omega (arith, within, c.loop-b-test.false))
      | inr past ↦ c.loop-b.invariant.rest k (omega (arith, past, c.loop-b-test.false, c.loop-b.auto.b-end)) small ∙ sym (get_or_past states k 0 past)
    ] in
    record {
      eight = length-set c.loop-i.planes c.loop-i.i _ ∙ c.loop-i.invariant.eight;
      done = λ k b below small.
          let here = c.plane_of.ensures b small ∙ ap (λ s. holds s c.loop-i.i) (cell b small) in
          grind (arith, common_steps, here, c.loop-i.invariant.done k b);
    }
