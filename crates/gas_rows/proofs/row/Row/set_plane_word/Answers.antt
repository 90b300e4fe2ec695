use Rattle.std.proofs.Common.{◌≡◌, vec_len, ◌+◌, ◌*◌, ◌<◌, ℕ, length, get_or, set, length-set, ap, ◌∙◌, sym, subst, arith}
use Rattle.std.proofs.lemmas.List.{with_items_is}
use Rattle.gas_geom.specs.Gas.{holds}
use Rattle.gas_bits.specs.Words.{words_in}
use Rattle.gas_rows.specs.Planes.{cells_of}
use Rattle.gas_rows.proofs.Cells.{length-cells}
use Rattle.gas_rows.proofs.Rows.{AreOf, wide, row-loaded, word-written, word-others}
use Rattle.gas_rows.proofs.row.Row.set_plane_word.Given.{Over}
use Rattle.gas_rows.proofs.row.Row.set_plane_word.Goals.{After-self-1}
use Rattle.gas_rows.proofs.row.Row.set_plane_word.Goals as goal

same : (g : Over) (c : After-self-1 g) → length c.clear_planes_past.new.words ≡ vec_len c.self.inside.words
same g c = omega (arith, length-set {A = ℕ}, c.clear_planes_past.auto.words, c.deref_mut-words.ensures.len)

settled : (g : Over) (c : After-self-1 g) →
    AreOf g.G.Gas.rules.dirs c.self.inside.width c.clear_planes_past.new.words
    (cells_of g.G.Gas.rules.dirs c.self.inside.width (set c.deref_mut-words.result.now (c.args.i * c.words_for.result + c.args.j) c.args.word))
settled g c =
    row-loaded g.G.Gas.rules.dirs c.self.inside.width (set c.deref_mut-words.result.now (c.args.i * c.words_for.result + c.args.j) c.args.word) c.clear_planes_past.new.words c.directions.result
    c.directions.ensures.value c.self.invariant.some_cells c.self.invariant.few_cells
    (omega (arith, length-set {A = ℕ}, c.clear_planes_past.auto.words, ap length c.deref_mut-words.ensures.value, c.self.invariant.long)) c.clear_planes_past.ensures.cleared

pub invariant_of-self : goal.invariant_of-self
invariant_of-self g c = rw (with_items_is c.self.inside.words c.clear_planes_past.new.words (same g c)) (settled g c).planes

pub returns : goal.returns
returns g c =
    let d = g.G.Gas.rules.dirs in
    let width = c.self.inside.width in
    let words = c.self.inside.words.items in
    let i : ℕ = c.args.i in
    let j : ℕ = c.args.j in
    let wide = wide d width words c.args.self.now c.self.invariant c.self.view_is in
    let there : j < words_in width = subst (λ w. j < words_in w) wide c.requires.within in
    let cells = ap (cells_of d width) (with_items_is c.self.inside.words c.clear_planes_past.new.words (same g c))
    ∙ (settled g c).cells ∙ ap (λ ws. cells_of d width (set ws (i * c.words_for.result + j) c.args.word)) c.deref_mut-words.ensures.value
    ∙ ap (λ n. cells_of d width (set words (i * n + j) c.args.word)) c.words_for.ensures.value in
    record {
      wide = length-cells d width _ ∙ sym wide;
      written = λ b hb lt.
          ap (λ r. holds (get_or r (64 * j + b) 0) i) cells
          ∙ word-written d width words c.args.self.now c.self.invariant c.self.view_is i j c.args.word c.requires.direction there b hb (omega (arith, lt, wide));
      others = λ x k other.
          ap (λ r. holds (get_or r x 0) k) cells
          ∙ word-others d width words c.args.self.now c.self.invariant c.self.view_is i j c.args.word c.requires.direction there x k other;
    }
