use Rattle.std.proofs.Common.{◌≡◌, ℕ, Bool, pos, ap, sym, ◌∙◌, arith, rules, if◌then◌else◌, FitsSigned, w64, to_z, of_z, nat_abs}
use Rattle.std.proofs.lemmas.Int.{ints}
use Rattle.gas_geom.specs.Lattice.{LatticeModel, with_cell}
use Rattle.gas_layout.proofs.Grids.{lattice_of-state}
use Rattle.gas_layout.proofs.Placed.{is_at, natural-pos, is_at-here, is_at-other}
use Rattle.gas_layout.proofs.area.Placement.put.Goals as goal

pub returns-clause-cells : goal.returns-clause-cells
returns-clause-cells g c = λ w h solid at e.
    let p = c.args.self in
    let l = c.args.lattice.now in
    let x_fits : FitsSigned w64 p.x = search rules in
    let y_fits : FitsSigned w64 p.y = search rules in
    let state_fits : FitsSigned w64 p.state = search rules in
    let x : ℕ = nat_abs (to_z w64 (of_z w64 p.x)) in
    let y : ℕ = nat_abs (to_z w64 (of_z w64 p.y)) in
    let state : ℕ = nat_abs (to_z w64 (of_z w64 p.state)) in
    let ex : p.x ≡ pos x = grind (arith, ints, c.requires.can) in
    let ey : p.y ≡ pos y = grind (arith, ints, c.requires.can) in
    let es : pos state ≡ p.state = grind (arith, ints, c.requires.can) in
    let after : ℕ → ℕ → ℕ = λ u v. if is_at p u v then nat_abs p.state else at u v in
    let here : after x y ≡ nat_abs p.state = ap (λ (b : Bool). if b then nat_abs p.state else at x y) (is_at-here p x y ex ey) in
    c.set_cell.ensures.written
    ∙ ap (λ n. record l { rows = with_cell l.rows x y n }) (natural-pos _ _ es ∙ sym here)
    ∙ ap (λ (m : LatticeModel). record m { rows = with_cell m.rows x y (after x y) }) e
    ∙ lattice_of-state w h solid at after x y
    (grind (arith, ints, c.requires.can, ex, ap (λ (m : LatticeModel). m.channel.width) e))
    (grind (arith, ints, c.requires.can, ey, ap (λ (m : LatticeModel). m.channel.height) e))
    (λ u k other. sym (ap (λ (b : Bool). if b then nat_abs p.state else at u k) (is_at-other p x y u k ex ey other)))
