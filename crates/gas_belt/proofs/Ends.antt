-- The ends of a ring as the ends of a belt.
use Rattle.std.proofs.Common.{rules, ◌≡◌, ◌+◌, ◌≤◌, ◌++◌, ◌∙◌, ℕ, List, length, ap, sym, arith}
use mathlib.Core.List.{IsPrefix}
use Rattle.std.proofs.lemmas.List.{length-append}
use Rattle.std.specs.Global.{Global}
use Rattle.rtrb.specs.declared.AnyItems.{AnyItems}
use Rattle.rtrb.specs.declared.end.End.{End}
use Rattle.rtrb.specs.Ends.{SameRing}
use Rattle.gas_rows.specs.Row.{RowModel}
use Rattle.gas_belt.specs.Belt.{Belt, Receiver}
use Rattle.gas_belt.specs.Inner.Ring.{belt_of}

pub same_belt : (dirs width : ℕ) (a b : End ℕ Global AnyItems) → SameRing a b → belt_of dirs width b ≡ belt_of dirs width a
same_belt dirs width a b same = search rules

abbrev pub receiver : Belt → List RowModel → ℕ → ℕ → ℕ → Receiver
receiver b t h m c = record { belt = b; taken = t; held = h; most = m; come = c }

pub receiver_is : {b c : Belt} {t u : List RowModel} {h k m n x y : ℕ} → b ≡ c → t ≡ u → h ≡ k → m ≡ n → x ≡ y → receiver b t h m x ≡ receiver c u k n y
receiver_is eb et eh em ec = search rules

-- words that are popped were known or are known afterwards
pub none_lost : (received known popped known2 : List ℕ) → IsPrefix known (popped ++ known2)
    → length received + length known ≤ length (received ++ popped) + length known2
none_lost received known popped known2 prefix =
    let sum : length known + length prefix.0 ≡ length popped + length known2 =
    sym (length-append known prefix.0) ∙ ap (λ (l : List ℕ). length l) prefix.1 ∙ length-append popped known2 in
    let more : length (received ++ popped) ≡ length received + length popped = length-append received popped in
    omega (arith, sum, more)
