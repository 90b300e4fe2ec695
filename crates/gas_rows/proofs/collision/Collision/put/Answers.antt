use Rattle.std.proofs.Common.{◌≡◌, ◌+◌, ◌-◌, ◌*◌, ◌/◌, ◌%◌, ◌<◌, ◌≤◌, ◌&&◌, inl, inr, get_or, ap, ◌∙◌, arith}
use Rattle.std.specs.Prelude.{nat_le, nat_lt}
use Rattle.std.proofs.lemmas.Bool.{cases_lt}
use Rattle.std.proofs.lemmas.Bool.Decides.{nat_tests}
use Rattle.gas_geom.specs.Gas.{holds}
use Rattle.gas_bits.specs.Words.{bit}
use Rattle.gas_bits.proofs.Scatters.{four-written}
use Rattle.gas_rows.proofs.collision.Collision.put.Goals as goal

pub returns-clause-written : goal.returns-clause-written
returns-clause-written g c = λ y hy.
    let gas = g.G.Gas.rules in
    let q = c.args.self.now in
    let j = c.args.j in
    let solid = c.solid_four-solid.result in
    let written = four-written c.write_four_at.new.words c.args.words.now q.words_each gas.dirs y (64 * j) c.args.planes
    (holds (get_or solid ((y - 64 * j) / 64) 0) (y % 64)) (nat_le (64 * j) y && nat_lt y (64 * j + 256))
    (λ i hi. c.write_four_at.ensures.written i y (omega (arith, hi, c.directions.ensures.value)) hy) in
    let own : 64 * j ≤ y → y < 64 * j + 256 → holds (get_or solid ((y - 64 * j) / 64) 0) (y % 64) ≡ bit q.solid.now y = λ from to.
    ap (holds (get_or solid ((y - 64 * j) / 64) 0)) (let e : y % 64 ≡ (y - 64 * j) % 64 = omega (arith, from) in e) ∙ c.solid_four-solid.ensures y from to in
    elim (cases_lt y (64 * j)) [
      | inl before ↦ grind (arith, nat_tests)
      | inr from ↦ elim (cases_lt y (64 * j + 256)) [
        | inl to ↦ let o = own from to in grind (arith, nat_tests)
        | inr past ↦ grind (arith, nat_tests)
      ]
    ]
