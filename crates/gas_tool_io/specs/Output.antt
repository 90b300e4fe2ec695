-- What a call that writes a text does to the writer.
use Rattle.std.specs.Prelude.{◌≤◌, ℕ, List, length, take, Option, Result, Ok, Err, ⊤}
use Rattle.std.specs.Io.KnownBytes.{Appends}
use Rattle.gas_tool_io.specs.declared.text.WriteFault.{WriteFault}

-- the whole text went out, or exactly its first bytes up to the count of the fault
abbrev pub Writes : Option (List ℕ) → Option (List ℕ) → List ℕ → Result ⊤ WriteFault → Type 0
Writes old new text (Ok _) = Appends old new text
Writes old new text (Err fault) = (fault.written ≤ length text) × Appends old new (take fault.written text)
