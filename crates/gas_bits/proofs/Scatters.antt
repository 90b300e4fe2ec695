-- What the sets of cells are, after words of their directions were written.
use Rattle.std.proofs.Common.{◌≡◌, ℕ, ◌+◌, ◌-◌, ◌*◌, ◌/◌, ◌%◌, ◌<◌, ◌≤◌, Bool, true, false, not, ◌&&◌, if◌then◌else◌, List, get_or, replicate, sym, ap, ◌∙◌, arith}
use mathlib.Core.Bool.{and-false, and-true}
use Rattle.std.proofs.lemmas.Nat.{pow_pos}
use Rattle.gas_geom.specs.Gas.{holds}
use Rattle.gas_geom.specs.Lanes.{lanes_hold}
use Rattle.gas_geom.specs.Planes.{set_in, set_at}
use Rattle.gas_geom.proofs.Holds.{holds-zero, set_of-same}
use Rattle.gas_bits.specs.Words.{bit}
use Rattle.gas_bits.specs.Planes.{has, state, four_has}
use Rattle.gas_bits.proofs.Cells.{state-same}
use Rattle.gas_bits.proofs.Words.{bit-at, bit-zeros}
use Rattle.gas_geom.specs.Lattice.{set_of}
use Rattle.gas_geom.proofs.Sets.{set_from}

-- the set of a cell whose directions are kept or, where it is solid, dropped
pub state-masked : (words : List ℕ) (n d y : ℕ) (f : ℕ → Bool) (solid : Bool) → ((i : ℕ) → i < d → has words n i y ≡ (f i && not solid)) →
    state words n d y ≡ (if solid then 0 else set_of d f)
unfolding state
state-masked words n d y f true each =
    set_from d 0 (λ i. has words n i y) (pow_pos d) (λ i h. each i h ∙ and-false (f i) ∙ sym (holds-zero i))
state-masked words n d y f false each = set_of-same d (λ i. has words n i y) f (λ i h. each i h ∙ and-true (f i))

-- the set of a cell after four words of each direction were written, from cell `start` on
pub four-written : (new old : List ℕ) (n d y start : ℕ) (planes : List (List ℕ)) (solid inside : Bool)
    → ((i : ℕ) → i < d → has new n i y ≡ (if inside then four_has planes i (y - start) && not solid else has old n i y))
    → state new n d y ≡ (if inside then (if solid then 0 else set_in lanes_hold (replicate 4 0) d planes (y - start)) else state old n d y)
four-written new old n d y start planes solid true each = state-masked new n d y (λ i. four_has planes i (y - start)) solid each
four-written new old n d y start planes solid false each = state-same new old n d y each

-- the same after one word of each direction was written
pub word-written : (new old : List ℕ) (n d y : ℕ) (planes : List ℕ) (inside : Bool)
    → ((i : ℕ) → i < d → has new n i y ≡ (if inside then holds (get_or planes i 0) (y % 64) && not (holds 0 (y % 64)) else has old n i y))
    → state new n d y ≡ (if inside then set_at d planes (y % 64) else state old n d y)
word-written new old n d y planes true each =
    state-masked new n d y (λ i. holds (get_or planes i 0) (y % 64)) false (λ i h. each i h ∙ ap (λ s. holds (get_or planes i 0) (y % 64) && not s) (holds-zero (y % 64)))
word-written new old n d y planes false each = state-same new old n d y each

-- bit b of lane l of four words, as that of a cell
pub lane-bit : (four words : List ℕ) (j x : ℕ) → 64 * j ≤ x → ((l : ℕ) → l < 4 → get_or four l 0 ≡ get_or words (j + l) 0) → x < 64 * j + 256
    → lanes_hold four (x - 64 * j) ≡ bit words x
lane-bit four words j x from read to =
    let cell = x - 64 * j in
    let place : 64 * (j + cell / 64) + cell % 64 ≡ x = omega (arith, from) in
    ap (λ w. holds w (cell % 64)) (read (cell / 64) (omega (arith, to, from))) ∙ sym (bit-at words (j + cell / 64) (cell % 64) (omega arith)) ∙ ap (bit words) place

-- where no bit is set
pub lane-none : (l b : ℕ) → b < 64 → holds (get_or (replicate 4 0) l 0) b ≡ false
lane-none l b h = sym (bit-at (replicate 4 0) l b h) ∙ bit-zeros 4 (64 * l + b)
