-- Inner words: what functions of this crate promise one another. No public contract cites them.
-- Here: what a sink does to the writer.
use Rattle.std.specs.Prelude.{◌≡◌, ◌≤◌, ℕ, List, ◌++◌, length, take, drop, Bool, false, Option}
use Rattle.std.specs.Io.KnownBytes.{Appends}

-- a sink: the bytes that wait in its chunk, the count of the bytes that went out, and whether the writer failed
pub record SinkModel : Type 0 where
  pub waiting : List ℕ
  pub written : ℕ
  pub failed : Bool

-- the first bytes of the text, up to the count, went out; unless the writer failed, the others wait
pub record HasSent (start now : Option (List ℕ)) (sink : SinkModel) (text : List ℕ) : Type 0 where
  pub within : sink.written ≤ length text
  pub out : Appends start now (take sink.written text)
  pub waiting : sink.failed ≡ false → drop sink.written text ≡ sink.waiting

-- if any text was sent before, it is sent now with the bytes after it
pub record Adds (old new : Option (List ℕ)) (before after : SinkModel) (bytes : List ℕ) : Type 0 where
  pub adds : (start : Option (List ℕ)) (text : List ℕ) →
      HasSent start old before text → HasSent start new after (text ++ bytes)
