use Rattle.std.proofs.Common.{◌≡◌, ◌/◌, ◌<◌, ℕ, Bool, if◌then◌else◌, length, get_or, ap, ap₂, ◌∙◌, sym, subst, arith}
use Rattle.std.proofs.lemmas.List.{with_items_is}
use Rattle.gas_bits.specs.Words.{words_in, bit}
use Rattle.gas_bits.specs.Planes.{state}
use Rattle.gas_geom.specs.Lattice.{row_of}
use Rattle.gas_rows.proofs.Rows.{AreOf, wide, row_of-same}
use Rattle.gas_geom.proofs.Held.{collide-empty}
use Rattle.gas_rows.proofs.Collisions.{row-collided}
use Rattle.gas_rows.proofs.row.collide_row.Given.{Over}
use Rattle.gas_rows.proofs.row.collide_row.Goals.{After-row-1}
use Rattle.gas_rows.proofs.row.collide_row.Goals as goal

pub invariant_of-collision : goal.invariant_of-collision
invariant_of-collision g c =
    let same = ap words_in (wide g.G.Gas.rules.dirs c.row.inside.width c.row.inside.words.items c.args.row.now c.row.invariant c.row.view_is)
    ∙ sym c.words_for.ensures.value in
    record {
      few_words = omega (arith, c.words_for.ensures.value, c.row.invariant.few_cells);
      solid_long = c.words.ensures.long ∙ ap words_in c.requires.solid_wide ∙ same;
      chi_long = c.words-2.ensures.long ∙ ap words_in c.requires.chi_wide ∙ same;
      fluid = λ all y. c.words.ensures.bits y ∙ c.is_blank.ensures.blank all y;
    }

settled : (g : Over) (c : After-row-1 g) → AreOf g.G.Gas.rules.dirs c.row.inside.width c.collide.new.words
    (row_of (length c.args.row.now) (λ x. if bit c.words.result.now x then 0 else g.G.Gas.rules.collide (get_or c.args.row.now x 0) (bit c.words-2.result.now x)))
settled g c =
    let gas = g.G.Gas.rules in
    let n = c.words_for.result in
    row-collided gas.dirs gas.collide (collide-empty gas g.met.G.Gas.laws) c.row.inside.width c.row.inside.words.items c.args.row.now c.row.invariant c.row.view_is
    c.collide.new.words n c.words-2.result.now c.words.result.now c.words_for.ensures.value (c.collide.auto.words ∙ ap length c.deref_mut.ensures.value)
    (subst (λ ws. (y : ℕ) → y / 64 < n → state c.collide.new.words n gas.dirs y
    ≡ (if bit c.words.result.now y then 0 else gas.collide (state ws n gas.dirs y) (bit c.words-2.result.now y))) c.deref_mut.ensures.value c.collide.ensures.collided)

pub invariant_of-row : goal.invariant_of-row
invariant_of-row g c = rw (with_items_is c.row.inside.words c.collide.new.words (c.collide.auto.words ∙ c.deref_mut.ensures.len)) (settled g c).planes

pub returns-clause-collided : goal.returns-clause-collided
returns-clause-collided g c =
    rw (with_items_is c.row.inside.words c.collide.new.words (c.collide.auto.words ∙ c.deref_mut.ensures.len))
    ((settled g c).cells ∙ row_of-same 0 (length c.args.row.now) _ _ (λ x _.
    ap₂ (λ (s r : Bool). if s then 0 else g.G.Gas.rules.collide (get_or c.args.row.now x 0) r) (c.words.ensures.bits x) (c.words-2.ensures.bits x)))
