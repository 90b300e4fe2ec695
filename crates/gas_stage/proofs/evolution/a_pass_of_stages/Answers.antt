use Rattle.std.proofs.Common.{◌≡◌, ◌≤◌, ℕ, ◌+◌, List, nat_lt, if◌then◌else◌, Some, None, Option, min, ap, ◌∙◌, sym, refl, arith}
use Rattle.std.proofs.Math.Nat.{min-eq_left}
use Rattle.gas_geom.specs.Lattice.{generation}
use Rattle.gas_rows.specs.Chirality.{chirality_bit}
use Rattle.gas_stage.specs.Stages.{owed_by, passes_from}
use Rattle.gas_stage.proofs.OwedBy.{owed_by-generations}
use Rattle.gas_stage.proofs.evolution.a_pass_of_stages.Goals as goal

pub returns : goal.returns
returns c = record {
  lattice = λ gas chirality first computing count l high.
      let at : ℕ → List (List ℕ) = generation gas l.channel (chirality_bit chirality l.channel.width) first l.rows in
      let does : ℕ → Option ℕ = λ k. if nat_lt k computing then Some (first + k) else None in
      ap (λ n. owed_by gas l.channel chirality (passes_from first computing count) (at n))
      (sym (min-eq_left (let none : 0 ≤ computing = omega arith in none)))
      ∙ owed_by-generations gas l.channel chirality first computing l.rows high does 0 0 count (λ i. refl)
      ∙ ap (λ n. at (min n computing)) (let e : 0 + count ≡ count = omega arith in e);
}
