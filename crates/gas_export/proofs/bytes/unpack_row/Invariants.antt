use Rattle.std.proofs.Common.{◌≡◌, ◌<◌, ◌*◌, ℕ, length, get_or}
use Rattle.gas_bits.specs.Words.{words_in}
use Rattle.gas_bits.specs.Planes.{state}
use Rattle.gas_export.proofs.bytes.unpack_row.Given as goal

-- the cells of the words before j are unpacked
abbrev pub invariant-loop-j : goal.invariant-loop-j
invariant-loop-j l = record {
  long : length l.bytes ≡ length l.initial.bytes;
  unpacked : (x : ℕ) → x < 64 * l.j → x < l.width → get_or l.bytes x 0 ≡ state l.words (words_in l.width) l.planes x;
}
