-- Which arguments are lawful. A call returns the status of the first that is not, or 0.
use Rattle.std.specs.Prelude.{ℕ, ◌+◌, ◌*◌, ◌&&◌, Bool, nat_le, if◌then◌else◌}
use Rattle.std.specs.Int.{div_ceil}
use Rattle.gas_bits.specs.Words.{words_in}
use Rattle.gas_export.specs.Planes.{gas_numbered}

-- a status unless something is lawful, else what comes after
abbrev pub unless : Bool → ℕ → ℕ → ℕ
unless lawful status rest = if lawful then rest else status

-- a lawful number of planes, and a lawful size
abbrev pub is_planes : ℕ → Bool
is_planes planes = nat_le 1 planes && nat_le planes 8

abbrev pub is_size : ℕ → ℕ → Bool
is_size width height = (nat_le 1 width && nat_le width 65536) && (nat_le 1 height && nat_le height 65536)

-- the number of words of so many planes, and of the memory to work in
abbrev pub words_of : ℕ → ℕ → ℕ → ℕ
words_of planes width height = height * (planes * words_in width)

abbrev pub work_of : ℕ → ℕ → ℕ
work_of gas width = (3 * (gas_numbered gas).dirs + 2) * words_in width

-- the number of blocks
abbrev pub blocks_in : ℕ → ℕ → ℕ → ℕ → ℕ
blocks_in width height block_width block_height = div_ceil height block_height * div_ceil width block_width
