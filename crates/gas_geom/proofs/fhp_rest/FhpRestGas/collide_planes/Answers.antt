use Rattle.std.proofs.Common.{◌≡◌, ◌<◌, ◌∙◌, ap, sym, Bool, not, ◌&&◌, ◌||◌, ℕ, List, [], ◌∷◌, get_or, refl, arith}
use Rattle.std.proofs.lemmas.List.{get_or_default}
use Rattle.gas_geom.specs.Gas.{holds}
use Rattle.gas_geom.specs.Lattice.{set_of}
use Rattle.gas_geom.specs.Fhp1.{fhp1}
use Rattle.gas_geom.specs.FhpRest.{fhp_rest}
use Rattle.gas_geom.specs.Planes.{differ}
use Rattle.gas_geom.proofs.Holds.{holds-set_of}
use Rattle.gas_geom.proofs.Planes.{collided}
use Rattle.gas_geom.proofs.fhp_rest.FhpRestGas.collide_planes.Goals as goal

-- the code at one cell, by the same names, from the cell's set after FHP-I's collision of the particles that move
abbrev after : ℕ → (ℕ → Bool) → List Bool
after moving at =
    let one_e = differ (at 0) (at 3) in
    let one_ne = differ (at 1) (at 4) in
    let one_nw = differ (at 2) (at 5) in
    let first = at 0 || at 2 || at 4 in
    let second = at 1 || at 3 || at 5 in
    let odd = differ (differ one_e one_ne) one_nw in
    let unlike = one_e && one_ne && one_nw || differ odd (at 6) in
    let exchange = differ first second && not unlike in
    let at_e = exchange && differ one_e second in
    let at_ne = exchange && differ one_ne first in
    let at_nw = exchange && differ one_nw second in
    differ (holds moving 0) at_e ∷ differ (holds moving 1) at_ne ∷ differ (holds moving 2) at_nw ∷ differ (holds moving 3) (differ exchange at_e)
    ∷ differ (holds moving 4) (differ exchange at_ne) ∷ differ (holds moving 5) (differ exchange at_nw) ∷ differ (at 6) exchange ∷ []

abbrev moving : (ℕ → Bool) → Bool → ℕ
moving at chi = fhp1.collide (set_of 6 at) chi

pub returns-clause-cells : goal.returns-clause-cells
returns-clause-cells g c k lt =
    let bit = g.W.Word.bit in
    let none = g.W.Word.none in
    let at : ℕ → Bool = λ i. bit (get_or c.args.planes i none) k in
    let chi : Bool = bit c.args.chi k in
    let before = c.collide_planes.result in
    let bits : List Bool =
    bit c.xor-7.result k ∷ bit c.xor-8.result k ∷ bit c.xor-9.result k ∷ bit c.xor-11.result k ∷ bit c.xor-13.result k ∷ bit c.xor-15.result k
    ∷ bit c.xor-16.result k ∷ [] in
    let bits-after : (t : ℕ) → ((i : ℕ) → i < 6 → (d : g.row.W.Denot) → bit (get_or before i d) k ≡ holds t i) → bits ≡ after t at =
    λ t same. simp (
      c.xor-one_e.ensures.bits,
      c.xor-one_ne.ensures.bits,
      c.xor-one_nw.ensures.bits,
      c.or.ensures.bits,
      c.or-first.ensures.bits,
      c.or-2.ensures.bits,
      c.or-second.ensures.bits,
      c.xor.ensures.bits,
      c.xor-odd.ensures.bits,
      c.and.ensures.bits,
      c.and-2.ensures.bits,
      c.xor-2.ensures.bits,
      c.or-unlike.ensures.bits,
      c.xor-3.ensures.bits,
      c.not.ensures.bits,
      c.and-exchange.ensures.bits,
      c.xor-4.ensures.bits,
      c.and-at_e.ensures.bits,
      c.xor-5.ensures.bits,
      c.and-at_ne.ensures.bits,
      c.xor-6.ensures.bits,
      c.and-at_nw.ensures.bits,
      c.xor-7.ensures.bits,
      c.xor-8.ensures.bits,
      c.xor-9.ensures.bits,
      c.xor-10.ensures.bits,
      c.xor-11.ensures.bits,
      c.xor-12.ensures.bits,
      c.xor-13.ensures.bits,
      c.xor-14.ensures.bits,
      c.xor-15.ensures.bits,
      c.xor-16.ensures.bits,
      same 0 (omega arith) c.index-collide_planes-0.result,
      same 1 (omega arith) c.index-collide_planes-1.result,
      same 2 (omega arith) c.index-collide_planes-2.result,
      same 3 (omega arith) c.index-collide_planes-3.result,
      same 4 (omega arith) c.index-collide_planes-4.result,
      same 5 (omega arith) c.index-collide_planes-5.result,
      get_or_default c.args.planes 0 c.index-planes-0.result none (omega arith),
      get_or_default c.args.planes 1 c.index-planes-1.result none (omega arith),
      get_or_default c.args.planes 2 c.index-planes-2.result none (omega arith),
      get_or_default c.args.planes 3 c.index-planes-3.result none (omega arith),
      get_or_default c.args.planes 4 c.index-planes-4.result none (omega arith),
      get_or_default c.args.planes 5 c.index-planes-5.result none (omega arith),
      get_or_default c.args.planes 6 c.index-planes-6.result none (omega arith),
    ) in
    collided fhp_rest (λ f r. after (moving f r) f) refl at chi bits (bits-after (moving at chi) (λ i few d.
    ap (λ w. bit w k) (get_or_default before i d none (omega arith))
    ∙ sym (holds-set_of 6 (λ j. bit (get_or before j none) k) i few) ∙ ap (λ s. holds s i) (c.collide_planes.ensures.cells k lt)))
