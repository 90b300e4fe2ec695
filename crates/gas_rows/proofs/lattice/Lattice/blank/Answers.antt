use Rattle.std.proofs.Common.{◌≡◌, ℕ, List, replicate, ap, ◌∙◌, sym, subst, arith}
use Rattle.gas_geom.specs.Lattice.{IsLattice}
use Rattle.gas_rows.proofs.Lattices.{IsLattice-empty}
use Rattle.gas_rows.proofs.lattice.Lattice.blank.Goals as goal

pub invariant_of-result : goal.invariant_of-result
invariant_of-result g c =
    let high : c.loop.counter ≡ c.args.channel.height = omega (arith, c.size-size.ensures.height) in
    let rows : c.loop.rows.items ≡ replicate c.args.channel.height (replicate {A = ℕ} c.args.channel.width 0) =
    c.loop.invariant ∙ ap (λ n. replicate n (replicate {A = ℕ} c.size-size.result.width 0)) high
    ∙ ap (λ n. replicate c.args.channel.height (replicate {A = ℕ} n 0)) c.size-size.ensures.width in
    subst (λ (s : List (List ℕ)). IsLattice g.G.Gas.rules c.args.channel s) (sym rows) (IsLattice-empty g.G.Gas.rules c.args.channel)
