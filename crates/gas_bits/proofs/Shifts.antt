-- The bits of a word that was moved by one cell along its row, where the columns are periodic: `at` has the row's cells, and `word` those
-- of word j, from cell 64 * j on.
use Rattle.std.proofs.Common.{◌≡◌, ℕ, ◌+◌, ◌-◌, ◌*◌, ◌%◌, ◌<◌, ◌≤◌, Bool, ◌==◌, if◌then◌else◌, arith}
use Rattle.std.proofs.lemmas.Bool.Decides.{nat_tests}
use Rattle.std.proofs.Math.Nat.{mod-eq_of_lt}
use Rattle.gas_geom.specs.Laws.Steps.{whole_turn}
use Rattle.gas_geom.specs.declared.moves.Move.TheVariants.{Back, On}
use Rattle.gas_geom.specs.Moves.{column_after}

module _ (at word moved : ℕ → Bool) (width j : ℕ) (here : (b : ℕ) → b < 64 → word b ≡ at (64 * j + b)) where
  -- `before` is the cell to the west of the first one
  pub moved-west : (before : Bool) → before ≡ at (column_after width (64 * j) Back) →
      ((b : ℕ) → b < 64 → moved b ≡ (if b == 0 then before else word (b - 1))) →
      (b : ℕ) → b < 64 → 64 * j + b < width → moved b ≡ at (column_after width (64 * j + b) Back)
  moved-west before first is b h lt =
      let bits = is b h in
      let beside = here (b - 1) (omega arith) in
      let column : 1 ≤ b → (64 * j + b + width - 1) % width ≡ 64 * j + (b - 1) =
      λ some. whole_turn width (64 * j + (b - 1)) (64 * j + b + width - 1) (omega arith) (omega arith) in
      grind (arith, nat_tests)

  -- `after` is the cell to the east of bit `last`
  pub moved-east : (last : ℕ) (after : Bool) → last < 64 → 64 * j + last < width → after ≡ at (column_after width (64 * j + last) On) →
      ((b : ℕ) → b ≤ last → moved b ≡ (if b == last then after else word (b + 1))) →
      (b : ℕ) → b ≤ last → moved b ≡ at (column_after width (64 * j + b) On)
  moved-east last after few inside next is b le =
      let bits = is b le in
      let beside = here (b + 1) in
      let column : b < last → (64 * j + b + 1) % width ≡ 64 * j + b + 1 = λ lt. mod-eq_of_lt (omega arith) in
      grind (arith, nat_tests)
