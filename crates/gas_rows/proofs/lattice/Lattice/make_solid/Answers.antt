use Rattle.std.proofs.Common.{◌≡◌, ◌<◌, ℕ, true, List, [], length, get_or, set, ap, ◌∙◌, sym, subst, arith}
use Rattle.std.proofs.lemmas.List.{get_or_default}
use Rattle.gas_geom.specs.Channel.{ChannelModel}
use Rattle.gas_geom.specs.Lattice.{LatticeModel, IsLattice, with_cell}
use Rattle.gas_rows.proofs.Lattices.{IsLattice-with_solid}
use Rattle.gas_rows.proofs.lattice.Lattice.make_solid.Goals as goal

pub invariant_of-self : goal.invariant_of-self
invariant_of-self g c =
    let gas = g.G.Gas.rules in
    let rows : List (List ℕ) = c.self.inside.rows.items in
    let inx : c.args.x < c.self.inside.channel.width = subst (λ (l : LatticeModel). c.args.x < l.channel.width) (sym c.self.view_is) c.requires.column in
    let iny : c.args.y < c.self.inside.channel.height = subst (λ (l : LatticeModel). c.args.y < l.channel.height) (sym c.self.view_is) c.requires.row in
    let there : c.args.y < length rows = omega (arith, c.self.invariant.high) in
    let row : c.index_mut.result.now ≡ get_or rows c.args.y [] =
    c.index_mut.ensures.value ∙ get_or_default rows c.args.y c.index_mut.result.now [] there in
    let changed : set rows c.args.y c.set.new.self ≡ with_cell rows c.args.x c.args.y 0 =
    ap (set rows c.args.y) (c.set.ensures.written ∙ ap (λ (r : List ℕ). set r c.args.x 0) row) in
    subst (λ (ch : ChannelModel). IsLattice gas ch (set rows c.args.y c.set.new.self)) (sym c.make_solid.ensures.written)
    (subst (IsLattice gas (record c.self.inside.channel { solid = with_cell c.self.inside.channel.solid c.args.x c.args.y true })) (sym changed)
    (IsLattice-with_solid gas c.self.inside.channel rows c.args.x c.args.y c.self.invariant inx iny))
