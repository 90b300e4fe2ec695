-- Which plans are refused.
use Rattle.std.specs.Prelude.{ℕ, ◌||◌, nat_lt, if◌then◌else◌, Option, Some, None}
use Rattle.gas_pipe_members.specs.declared.plan.PlanError.{PlanError}
use Rattle.gas_pipe_members.specs.declared.plan.PlanError.TheVariants.{Stages, Capacity, Generations, Threads}

-- the first refusal of a number of stages, a capacity and a number of generations, or None
abbrev pub plan_refusal : ℕ → ℕ → ℕ → Option PlanError
plan_refusal stages capacity generations =
    if nat_lt stages 1 || nat_lt 64 stages then Some Stages
    else if nat_lt capacity 1 || nat_lt 1024 capacity then Some Capacity
    else if nat_lt 1000000 generations then Some Generations
    else None

-- the refusal of a number of threads for that number of stages, or None
abbrev pub threads_refusal : ℕ → ℕ → Option PlanError
threads_refusal stages threads = if nat_lt threads 1 || nat_lt stages threads then Some Threads else None
