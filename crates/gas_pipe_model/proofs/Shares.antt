-- How the stages of a plan are shared out.
use Rattle.std.proofs.Common.{◌≡◌, ℕ, zero, suc, ◌*◌, ◌/◌, ◌%◌, ◌<◌, ◌≤◌, refl, ap, ◌∙◌, arith}
use Rattle.std.proofs.Math.Nat.{zero-mul, suc-mul, div-add-mod, mod-lt, div_self, mod_self}
use Rattle.gas_pipe_model.specs.Plan.{PlanModel, before}

pub before-none : (plan : PlanModel) → 0 < plan.threads → before plan 0 ≡ 0
before-none plan some = omega (arith, mod-lt plan.stages some, zero-mul (plan.stages / plan.threads))

pub before-all : (plan : PlanModel) → before plan plan.threads ≡ plan.stages
before-all plan = omega (arith, div-add-mod plan.stages plan.threads)

pub before-grows : (plan : PlanModel) (k : ℕ) → before plan k ≤ before plan (suc k)
before-grows plan k = omega (arith, suc-mul k (plan.stages / plan.threads))

-- with a thread for each stage
pub before-each : (plan : PlanModel) (k : ℕ) → plan.threads ≡ plan.stages → k ≤ plan.stages → before plan k ≡ k
before-each plan k each few = by plan.stages refl
  where
    left : plan.stages % plan.threads ≡ 0
    left = ap (λ (t : ℕ). plan.stages % t) each ∙ mod_self plan.stages

    by : (n : ℕ) → plan.stages ≡ n → before plan k ≡ k
    by zero none =
        let first : k ≡ 0 = omega (arith, few, none) in
        let times : k * (plan.stages / plan.threads) ≡ 0 = ap (λ (i : ℕ). i * (plan.stages / plan.threads)) first ∙ zero-mul (plan.stages / plan.threads) in
        omega (arith, times, left, first)
    by (suc n) some =
        let one : plan.stages / plan.threads ≡ 1 = ap (λ (t : ℕ). plan.stages / t) each ∙ div_self (omega (arith, some)) in
        let times : k * (plan.stages / plan.threads) ≡ k = ap (λ (i : ℕ). k * i) one ∙ (let e : k * 1 ≡ k = omega arith in e) in
        omega (arith, times, left, few, each)
