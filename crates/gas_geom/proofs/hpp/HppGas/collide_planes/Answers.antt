use Rattle.std.proofs.Common.{Bool, not, ◌&&◌, ◌||◌, ℕ, List, [], ◌∷◌, get_or, refl, arith}
use Rattle.std.proofs.lemmas.List.{get_or_default}
use Rattle.gas_geom.specs.Hpp.{hpp}
use Rattle.gas_geom.specs.Planes.{differ}
use Rattle.gas_geom.proofs.Planes.{collided}
use Rattle.gas_geom.proofs.hpp.HppGas.collide_planes.Goals as goal

-- the code at one cell, by the same names
abbrev after : (ℕ → Bool) → Bool → List Bool
after at chi =
    let e = at 0 in
    let n = at 1 in
    let w = at 2 in
    let s = at 3 in
    let turns = differ e n && not (differ e w || differ n s) in
    differ e turns ∷ differ n turns ∷ differ w turns ∷ differ s turns ∷ []

pub returns-clause-cells : goal.returns-clause-cells
returns-clause-cells g c k lt =
    let bit = g.W.Word.bit in
    let none = g.W.Word.none in
    let at : ℕ → Bool = λ i. bit (get_or c.args.planes i none) k in
    collided hpp after refl at (bit c.args._chi k)
    (bit c.xor-4.result k ∷ bit c.xor-5.result k ∷ bit c.xor-6.result k ∷ bit c.xor-7.result k ∷ [])
    (simp (
      c.xor.ensures.bits,
      c.xor-2.ensures.bits,
      c.xor-3.ensures.bits,
      c.or.ensures.bits,
      c.not.ensures.bits,
      c.and-turns.ensures.bits,
      c.xor-4.ensures.bits,
      c.xor-5.ensures.bits,
      c.xor-6.ensures.bits,
      c.xor-7.ensures.bits,
      get_or_default c.args.planes 0 c.index-planes-0.result none (omega arith),
      get_or_default c.args.planes 1 c.index-planes-1.result none (omega arith),
      get_or_default c.args.planes 2 c.index-planes-2.result none (omega arith),
      get_or_default c.args.planes 3 c.index-planes-3.result none (omega arith),
    ))
