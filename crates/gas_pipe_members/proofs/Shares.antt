-- How the stages of a plan are shared out to its workers, and what they compute in a pass.
use Rattle.std.proofs.Common.{◌≡◌, ℕ, zero, suc, ◌+◌, ◌-◌, ◌*◌, ◌<◌, ◌≤◌, min, Bool, if◌then◌else◌, nat_lt, Option, Some, None, List, ◌∷◌, map, ap, ap₂, ◌∙◌, sym, refl, arith, ⊎_elim}
use Rattle.std.proofs.lemmas.Bool.{cases_lt, lt-ltb, le-ltb}
use Rattle.std.specs.List.{range_with_len}
use Rattle.gas_stage.specs.Stages.{passes_from}
use Rattle.gas_pipe_model.specs.Pass.{computes_from, generations_of}
use Rattle.gas_pipe_model.specs.Plan.{PlanModel, before}

-- the step that is the n-th to be computed, counted from 0, if there are so many generations
abbrev step : ℕ → ℕ → ℕ → Option ℕ
step first generations n = if nat_lt n generations then Some (first + n) else None

-- what stage i does, if so many stages were in front, in this pass and in those before
same_step : (first generations done stages i : ℕ) → i < stages →
    (if nat_lt i (min (generations - done) stages) then Some (first + (generations - (generations - done)) + i) else None) ≡ step first generations (done + i)
same_step first generations done stages i low =
    ⊎_elim
    (λ on.
    let at : first + (generations - (generations - done)) + i ≡ first + (done + i) = omega (arith, on) in
    let left : i < min (generations - done) stages = omega (arith, on, low) in
    ap (λ (b : Bool). if b then Some (first + (generations - (generations - done)) + i) else None) (lt-ltb i (min (generations - done) stages) left)
    ∙ ap (λ (n : ℕ). Some n) at
    ∙ sym (ap (λ (b : Bool). if b then Some (first + (done + i)) else None) (lt-ltb (done + i) generations on)))
    (λ past.
    let none : min (generations - done) stages ≤ i = omega (arith, past) in
    ap (λ (b : Bool). if b then Some (first + (generations - (generations - done)) + i) else None) (le-ltb i (min (generations - done) stages) none)
    ∙ sym (ap (λ (b : Bool). if b then Some (first + (done + i)) else None) (le-ltb (done + i) generations past)))
    (cases_lt (done + i) generations)

same_on : (f g : ℕ → Option ℕ) (a b n : ℕ) → ((i : ℕ) → i < n → f (a + i) ≡ g (b + i)) → map f (range_with_len a n) ≡ map g (range_with_len b n)
same_on f g a b zero same = refl
same_on f g a b (suc n) same =
    let none_a : a ≡ a + 0 = omega arith in
    let none_b : b + 0 ≡ b = omega arith in
    let rest : (i : ℕ) → i < n → f (a + 1 + i) ≡ g (b + 1 + i) =
    λ i low.
    let on_a : a + 1 + i ≡ a + (i + 1) = omega arith in
    let on_b : b + (i + 1) ≡ b + 1 + i = omega arith in
    ap f on_a ∙ same (i + 1) (omega (arith, low)) ∙ ap g on_b in
    ap (λ (e : Option ℕ). e ∷ map f (range_with_len (a + 1) n)) (ap f none_a ∙ same 0 (omega arith) ∙ ap g none_b)
    ∙ ap (λ (l : List (Option ℕ)). g b ∷ l) (same_on f g (a + 1) (b + 1) n rest)

pub same_passes : (first : ℕ) (plan : PlanModel) (n k stages : ℕ) → before plan k + stages ≡ before plan (k + 1) →
    passes_from (first + (plan.generations - (plan.generations - (n * plan.stages + before plan k)))) (min (plan.generations - (n * plan.stages + before plan k)) stages) stages
    ≡ generations_of first plan n (suc k)
same_passes first plan n k stages share =
    same_on (λ i. if nat_lt i (min (plan.generations - done) stages) then Some (first + (plan.generations - (plan.generations - done)) + i) else None)
    (computes_from first plan n) 0 (before plan k + 1) stages
    (λ i low. same_step first plan.generations done stages (0 + i) (omega (arith, low)) ∙ ap (step first plan.generations) (at i))
    ∙ ap₂ (λ b i. map (computes_from first plan n) (range_with_len (b + 1) i)) front count
  where
    done : ℕ
    done = n * plan.stages + before plan k

    at : (i : ℕ) → done + (0 + i) ≡ n * plan.stages + (before plan k + 1 + i) - 1
    at i = omega arith

    front : before plan k ≡ before plan (suc k - 1)
    front = ap (before plan) (let e : k ≡ suc k - 1 = omega arith in e)

    count : stages ≡ before plan (suc k) - before plan (suc k - 1)
    count = omega (arith, share, front, ap (before plan) (let e : k + 1 ≡ suc k = omega arith in e))
