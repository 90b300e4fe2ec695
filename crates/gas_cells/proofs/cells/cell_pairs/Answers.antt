use Rattle.std.proofs.Common.{◌≡◌, ◌∙◌, sym, ap, ap₂, refl, ℕ, ◌+◌, ◌*◌, ◌<◌, Bool, List, ◌++◌, length, get_or, set, length-set, arith}
use Rattle.std.specs.List.{slice_index}
use Rattle.gas_geom.specs.Gas.{holds}
use Rattle.gas_bits.proofs.Bits.{holds-shr_and}
use Rattle.gas_cells.specs.Cells.{cell_text}
use Rattle.gas_cells.proofs.Pairs.{cell_text-long, texts, texts-next, pair_written, pairs-cut}
use Rattle.gas_cells.proofs.cells.cell_pairs.Goals as goal

pub loop-b-preserved : goal.loop-b-preserved
loop-b-preserved c =
    let f : ℕ → List ℕ = λ b. cell_text (holds c.args.solid b) (slice_index c.args.states b) in
    let b : ℕ = c.loop-b.b in
    let pair : c.cell_pair-pair.result ≡ f b = c.cell_pair-pair.ensures.text ∙ ap (λ (s : Bool). cell_text s (slice_index c.args.states b)) (holds-shr_and c.args.solid b) in
    let long : length c.cell_pair-pair.result ≡ 2 = ap length pair ∙ cell_text-long (holds c.args.solid b) (slice_index c.args.states b) in
    let more : texts f 0 b ++ f b ≡ texts f 0 (b + 1) = sym (texts-next f b) in
    let next : ℕ = 2 * b + 1 in
    let within : next < length c.loop-b.pairs = omega (arith, c.loop-b.invariant.long, c.loop-b-test.true) in
    let pairs : List ℕ = set c.loop-b.pairs (2 * b) (get_or c.cell_pair-pair.result 0 0) in
    record {
      long = length-set pairs next _ ∙ length-set c.loop-b.pairs (2 * b) _ ∙ c.loop-b.invariant.long;
      written =
          pair_written c.loop-b.pairs c.cell_pair-pair.result (2 * b) next (2 * (b + 1)) refl (let e : 2 * (b + 1) ≡ 2 * b + 2 = omega arith in e) within long
          ∙ ap₂ (λ (s t : List ℕ). s ++ t) c.loop-b.invariant.written pair ∙ more;
    }

pub returns : goal.returns
returns c = λ cells le.
    pairs-cut (λ b. cell_text (holds c.args.solid b) (slice_index c.args.states b)) (λ b. cell_text-long (holds c.args.solid b) (slice_index c.args.states b)) c.loop-b.pairs c.loop-b.b cells (omega (arith, le, c.loop-b-test.false)) c.loop-b.invariant.written
