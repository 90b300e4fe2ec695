use Rattle.std.proofs.Common.{Bool, List, length, false, slice_index_or, ap, ◌∙◌, arith}
use Rattle.std.proofs.lemmas.List.FromFn.{get_or-map-range_with_len, length-map-range_with_len}
use Rattle.gas_rows.specs.Chirality.{chirality_bit}
use Rattle.gas_rows.proofs.chirality.RandomBits.draw_for.Goals as goal

pub returns-then-USES_CHIRALITY-clause-wide : goal.returns-then-USES_CHIRALITY-clause-wide
returns-then-USES_CHIRALITY-clause-wide g c =
    ap (λ (bits : List Bool). length bits) c.draw.ensures.bits ∙ length-map-range_with_len _ 0 _

pub returns-then-USES_CHIRALITY-clause-collisions : goal.returns-then-USES_CHIRALITY-clause-collisions
returns-then-USES_CHIRALITY-clause-collisions g c = λ s x h.
    let width = length c.args.self.now.bits in
    ap (λ (bits : List Bool). g.G.Gas.rules.collide s (slice_index_or bits x false)) c.draw.ensures.bits
    ∙ ap (g.G.Gas.rules.collide s)
    (get_or-map-range_with_len (λ v. chirality_bit c.args.self.now.chirality width c.args.generation v c.args.y) 0 width x x false h (omega arith))
