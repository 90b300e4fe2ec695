use Rattle.std.proofs.Common.{◌≡◌, ◌<◌, ℕ, Bool, false, if◌then◌else◌, List, length, get_or, set, ap, ◌∙◌, sym, subst}
use Rattle.gas_geom.specs.Lattice.{LatticeModel, IsLattice, row_of}
use Rattle.gas_rows.proofs.Lattices.{fluid_state, IsLattice-with_states}
use Rattle.gas_rows.proofs.lattice.Lattice.set_states.Goals as goal

pub invariant_of-self : goal.invariant_of-self
invariant_of-self g c =
    let gas = g.G.Gas.rules in
    let channel = c.self.inside.channel in
    let y = c.args.y in
    let states = c.args.states.now in
    let iny : y < channel.height = subst (λ (l : LatticeModel). y < l.channel.height) (sym c.self.view_is) c.requires.row in
    let wide : length states ≡ channel.width = c.requires.wide ∙ ap (λ (l : LatticeModel). l.channel.width) (sym c.self.view_is) in
    let row : c.empty_solid.new.self ≡ row_of channel.width (fluid_state channel y states) =
    c.empty_solid.ensures.emptied
    ∙ ap (λ (r : List ℕ). row_of (length r) (λ x. if get_or c.mask.result.now x false then 0 else get_or r x 0)) c.copy_from.ensures
    ∙ ap (λ (m : List Bool). row_of (length states) (λ x. if get_or m x false then 0 else get_or states x 0)) c.mask.ensures.row
    ∙ ap (λ n. row_of n (fluid_state channel y states)) wide in
    subst (λ (r : List ℕ). IsLattice gas channel (set c.self.inside.rows.items y r)) (sym row)
    (IsLattice-with_states gas channel c.self.inside.rows.items y states c.self.invariant iny c.requires.states)
