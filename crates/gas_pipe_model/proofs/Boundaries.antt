-- How many passes a plan has: as many as have generations to compute.
use Rattle.std.proofs.Common.{◌≡◌, ℕ, ◌+◌, ◌*◌, ◌≤◌, ◌<◌, inl, inr, subst, arith}
use Rattle.std.specs.Int.{div_ceil}
use Rattle.std.proofs.lemmas.Bool.{cases_lt}
use Rattle.std.proofs.lemmas.Grind.{div_ceil_times}
use Rattle.std.proofs.Math.Nat.{mul-le-mul_right}

pub open_pass : (generations stages n : ℕ) → 0 < stages → n < div_ceil generations stages → n * stages < generations
open_pass generations stages n some few =
    let times : div_ceil generations stages * stages < generations + stages = (div_ceil_times generations stages some).1 in
    let here : (n + 1) * stages ≤ div_ceil generations stages * stages = mul-le-mul_right stages (omega (arith, few)) in
    let e : (n + 1) * stages ≡ n * stages + stages = omega arith in
    omega (arith, times, here, e)

pub enough_passes : (generations stages : ℕ) → 0 < stages → generations ≤ div_ceil generations stages * stages
enough_passes generations stages some = (div_ceil_times generations stages some).0

pub some_passes : (generations stages : ℕ) → 0 < stages → 0 < generations → 0 < div_ceil generations stages
some_passes generations stages some more =
    let enough = enough_passes generations stages some in
    elim (cases_lt 0 (div_ceil generations stages)) [
      | inl here ↦ here
      | inr none ↦
          let e : div_ceil generations stages ≡ 0 = omega (arith, none) in
          let nothing : generations ≤ 0 * stages = subst (λ (n : ℕ). generations ≤ n * stages) e enough in
          absurd (omega (arith, nothing, more))
    ]
