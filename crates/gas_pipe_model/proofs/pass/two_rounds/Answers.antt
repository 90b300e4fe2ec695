use Rattle.std.proofs.Common.{ℕ, suc, zero, ◌≤◌, List, [], ◌∷◌, Contains, refl, arith}
use Rattle.gas_pipe_model.proofs.pass.two_rounds.Goals as goal

both : (round : List ℕ) → Contains round 0 → Contains round 1 → (m : ℕ) → m ≤ 1 → Contains round m
both round feeder worker zero h = feeder
both round feeder worker (suc zero) h = worker
both round feeder worker (suc (suc m)) h = absurd (omega (arith, h))

pub returns : goal.returns
returns c =
    let one = both (0 ∷ 1 ∷ []) (0, omega arith, refl) (1, omega arith, refl) in
    let other = both (1 ∷ 0 ∷ []) (1, omega arith, refl) (0, omega arith, refl) in
    record { rounds = (0 ∷ 1 ∷ [], (1 ∷ 0 ∷ [], (refl, (one, (1 ∷ 0 ∷ [], ([], (refl, (other, tt)))))))) }
