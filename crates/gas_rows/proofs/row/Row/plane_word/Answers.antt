use Rattle.std.proofs.Common.{◌+◌, ◌*◌, ◌<◌, ℕ, length, get_or, ap, sym, ◌∙◌, subst, arith}
use Rattle.gas_geom.specs.Gas.{holds}
use Rattle.gas_bits.specs.Words.{words_in}
use Rattle.gas_bits.proofs.Cells.{place_in}
use Rattle.gas_bits.proofs.Words.{read_at}
use Rattle.gas_rows.proofs.Rows.{wide, held_word}
use Rattle.gas_rows.proofs.row.Row.plane_word.Goals as goal

pub returns : goal.returns
returns g c = record {
  bits = λ b hb.
      let d = g.G.Gas.rules.dirs in
      let width = c.self.inside.width in
      let words = c.self.inside.words.items in
      let row = c.args.self.now in
      let i : ℕ = c.args.i in
      let j : ℕ = c.args.j in
      let each = c.words_for.ensures.value in
      let there : j < words_in width = subst (λ w. j < words_in w) (wide d width words row c.self.invariant c.self.view_is) c.requires.within in
      let within : i * words_in width + j < length words = omega (arith, place_in (words_in width) d i j c.requires.direction there, c.self.invariant.long) in
      ap (λ w. holds w b) (read_at words (i * c.words_for.result + j) c.index.result.now (subst (λ n. i * n + j < length words) (sym each) within) c.index.ensures)
      ∙ ap (λ n. holds (get_or words (i * n + j) 0) b) each
      ∙ held_word d width words row c.self.invariant c.self.view_is i j b c.requires.direction there hb;
}
