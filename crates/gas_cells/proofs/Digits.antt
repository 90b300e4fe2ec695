-- A digit's value by ranges of characters, and cells by their states.
use Rattle.std.proofs.Common.{◌≡◌, ℕ, ◌+◌, ◌-◌, ◌<◌, true, ◌&&◌, if◌then◌else◌, Option, Some, None, nat_eq, nat_le, refl, ap}
use Rattle.std.proofs.Common.{false}
use Rattle.std.specs.Option.{option_eq}
use Rattle.std.proofs.lemmas.Bool.{agree_below_at, eqb-true, false≢true}
use Rattle.std.proofs.lemmas.Bool.Decides.{nat_tests}
use Rattle.gas_cells.specs.declared.reading.Cell.{Cell}
use Rattle.gas_cells.specs.Reading.{digit_of}

abbrev pub solid_cell : Cell
solid_cell = record { solid = true; state = 0 }

abbrev pub fluid : ℕ → Cell
fluid s = record { solid = false; state = s }

pub same_option : (a b : Option ℕ) → option_eq nat_eq a b ≡ true → a ≡ b
same_option None None e = refl
same_option None (Some y) e = absurd (false≢true e)
same_option (Some x) None e = absurd (false≢true e)
same_option (Some x) (Some y) e = ap Some (eqb-true x y e)

abbrev pub by_ranges : ℕ → Option ℕ
by_ranges b =
    if nat_le 48 b && nat_le b 57 then Some (b - 48)
    else if nat_le 97 b && nat_le b 102 then Some (b - 97 + 10)
    else None

pub digit_of-by_ranges : (b : ℕ) → b < 256 → digit_of b ≡ by_ranges b
unfolding digit_of
digit_of-by_ranges b h = same_option _ _ (agree_below_at (λ b. option_eq nat_eq (digit_of b) (by_ranges b)) (λ _. true) 256 b refl h)

-- what a digit's value is
pub ruleset digits = (nat_tests, digit_of-by_ranges)
