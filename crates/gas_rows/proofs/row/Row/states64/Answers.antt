use Rattle.std.proofs.Common.{◌<◌, ◌+◌, ◌*◌, get_or, ap, ◌∙◌, subst, arith}
use Rattle.gas_bits.specs.Words.{words_in}
use Rattle.gas_rows.proofs.Rows.{wide, state-of_planes}
use Rattle.gas_rows.proofs.row.Row.states64.Goals as goal

pub returns : goal.returns
returns g c = record {
  states = λ b hb.
      let there : c.args.j < words_in c.self.inside.width =
      subst (λ w. c.args.j < words_in w)
      (wide g.G.Gas.rules.dirs c.self.inside.width c.self.inside.words.items c.args.self.now c.self.invariant c.self.view_is) c.requires.within in
      c.states_of.ensures.states b hb
      ∙ state-of_planes g.G.Gas.rules.dirs c.self.inside.width c.self.inside.words.items c.args.self.now c.self.invariant c.self.view_is
      c.planes_at-planes.result c.words_for-words_each.result c.directions-2.result c.args.j b c.words_for-words_each.ensures.value c.directions-2.ensures.value
      there hb (λ i hi. c.planes_at-planes.ensures.planes i (omega arith) ∙ ap (λ ws. get_or ws (i * c.words_for-words_each.result + c.args.j) 0) c.deref.ensures.value);
}
