use Rattle.std.proofs.Common.{◌≡◌, ◌∙◌, ℕ, Bool, true, false, get_or, length, length-set, sym, ap, refl, arith, inl, inr}
use Rattle.std.proofs.lemmas.Bool.{cases_lt}
use Rattle.std.proofs.lemmas.Grind.{common_steps}
use Rattle.std.proofs.lemmas.List.{get_or_past}
use Rattle.std.proofs.lemmas.Simd.{get_or-replicate}
use mir.Val.{bool_byte}
use Rattle.gas_geom.specs.Gas.{holds}
use Rattle.gas_geom.proofs.Holds.{holds-above}
use Rattle.gas_bits.proofs.states.pack_word.Goals as goal

holds-one : (c : Bool) (n : ℕ) → n ≡ bool_byte c → holds n 0 ≡ c
holds-one true n e = ap (λ m. holds m 0) e
holds-one false n e = ap (λ m. holds m 0) e

pub loop-b-init : goal.loop-b-init
loop-b-init c = record {
  long = refl;
  done = λ k h. absurd (omega (arith, h));
  rest = λ k h small. get_or-replicate 64 k 0 0 small;
}

pub loop-b-preserved : goal.loop-b-preserved
loop-b-preserved c =
    let here : holds c.from.result 0 ≡ get_or c.args.cells.now c.loop-b.b false = holds-one (get_or c.args.cells.now c.loop-b.b false) c.from.result c.from.ensures in
    record {
      long = length-set c.loop-b.states c.loop-b.b _ ∙ c.loop-b.invariant.long;
      done = λ k h. grind (arith, common_steps, here, c.loop-b.invariant.done k);
      rest = λ k h small. grind (arith, common_steps, c.loop-b.invariant.rest k);
    }

pub returns : goal.returns
returns c = λ b.
    let cells = c.args.cells.now in
    elim (cases_lt b 64) [
      | inl small ↦ c.plane_of.ensures b small ∙ elim (cases_lt b (length cells)) [
        | inl within ↦ c.loop-b.invariant.done b (omega (arith, within, c.loop-b-test.false))
        | inr past ↦ ap (λ s. holds s 0) (c.loop-b.invariant.rest b (omega (arith, past, c.loop-b-test.false, c.loop-b.auto.b-end)) small) ∙ sym (get_or_past cells b false past)
      ]
      | inr large ↦ holds-above c.plane_of.result 64 b (omega arith) large ∙ sym (get_or_past cells b false (omega (arith, large, c.requires)))
    ]
