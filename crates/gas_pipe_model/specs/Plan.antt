-- Plans: the stages of a line, the capacity of a belt, the generations to compute, and the threads, one for each worker.
use Rattle.std.specs.Prelude.{ℕ, ◌+◌, ◌-◌, ◌*◌, ◌/◌, ◌%◌}

pub record PlanModel : Type 0 where
  pub stages : ℕ
  pub capacity : ℕ
  pub generations : ℕ
  pub threads : ℕ

-- The number of stages in front of belt k of a plan. Each worker has as many, and the last of them one more, if some are left.
abbrev pub before : PlanModel → ℕ → ℕ
before plan k = k * (plan.stages / plan.threads) + (k + plan.stages % plan.threads - plan.threads)
