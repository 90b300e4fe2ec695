use Rattle.std.proofs.Common.{Bool, not, ◌&&◌, ◌||◌, ℕ, List, [], ◌∷◌, get_or, refl, arith}
use Rattle.std.proofs.lemmas.List.{get_or_default}
use Rattle.gas_geom.specs.Fhp1.{fhp1}
use Rattle.gas_geom.specs.Planes.{differ}
use Rattle.gas_geom.proofs.Planes.{collided}
use Rattle.gas_geom.proofs.fhp1.Fhp1Gas.collide_planes.Goals as goal

-- the code at one cell, by the same names
abbrev after : (ℕ → Bool) → Bool → List Bool
after at chi =
    let e = at 0 in
    let ne = at 1 in
    let nw = at 2 in
    let w = at 3 in
    let sw = at 4 in
    let se = at 5 in
    let one_e = differ e w in
    let one_ne = differ ne sw in
    let one_nw = differ nw se in
    let unlike = differ e ne in
    let triple = one_e && one_ne && one_nw && unlike && differ ne nw in
    let more = e && ne || one_e || one_ne || one_nw in
    let pair = differ unlike nw && not more in
    let right = not chi in
    let pair_e = pair && (e || differ nw right) in
    let pair_ne = pair && (ne || differ e right) in
    let along_e = triple || pair_e in
    let along_ne = triple || pair_ne in
    let along_nw = triple || differ pair_e pair_ne in
    differ e along_e ∷ differ ne along_ne ∷ differ nw along_nw ∷ differ w along_e ∷ differ sw along_ne ∷ differ se along_nw ∷ []

pub returns-clause-cells : goal.returns-clause-cells
returns-clause-cells g c k lt =
    let bit = g.W.Word.bit in
    let none = g.W.Word.none in
    let at : ℕ → Bool = λ i. bit (get_or c.args.planes i none) k in
    collided fhp1 after refl at (bit c.args.chi k)
    (bit c.xor-6.result k ∷ bit c.xor-7.result k ∷ bit c.xor-8.result k ∷ bit c.xor-9.result k ∷ bit c.xor-10.result k ∷ bit c.xor-11.result k ∷ [])
    (simp (
      c.xor-one_e.ensures.bits,
      c.xor-one_ne.ensures.bits,
      c.xor-one_nw.ensures.bits,
      c.xor-unlike.ensures.bits,
      c.and.ensures.bits,
      c.and-2.ensures.bits,
      c.and-3.ensures.bits,
      c.xor.ensures.bits,
      c.and-triple.ensures.bits,
      c.xor-2.ensures.bits,
      c.and-4.ensures.bits,
      c.or.ensures.bits,
      c.or-2.ensures.bits,
      c.or-more.ensures.bits,
      c.not.ensures.bits,
      c.and-pair.ensures.bits,
      c.not-right.ensures.bits,
      c.xor-3.ensures.bits,
      c.or-3.ensures.bits,
      c.and-pair_e.ensures.bits,
      c.xor-4.ensures.bits,
      c.or-4.ensures.bits,
      c.and-pair_ne.ensures.bits,
      c.or-along_e.ensures.bits,
      c.or-along_ne.ensures.bits,
      c.xor-5.ensures.bits,
      c.or-along_nw.ensures.bits,
      c.xor-6.ensures.bits,
      c.xor-7.ensures.bits,
      c.xor-8.ensures.bits,
      c.xor-9.ensures.bits,
      c.xor-10.ensures.bits,
      c.xor-11.ensures.bits,
      get_or_default c.args.planes 0 c.index-planes-0.result none (omega arith),
      get_or_default c.args.planes 1 c.index-planes-1.result none (omega arith),
      get_or_default c.args.planes 2 c.index-planes-2.result none (omega arith),
      get_or_default c.args.planes 3 c.index-planes-3.result none (omega arith),
      get_or_default c.args.planes 4 c.index-planes-4.result none (omega arith),
      get_or_default c.args.planes 5 c.index-planes-5.result none (omega arith),
    ))
