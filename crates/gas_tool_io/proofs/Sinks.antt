-- Lemmas about sinks.
use Rattle.std.proofs.Common.{◌≡◌, ℕ, ◌+◌, ◌-◌, ◌≤◌, List, [], ◌++◌, length, take, drop, Option, Some, None, true, false, subst, sym, ap, ◌∙◌, arith, append-nil, append_assoc, length-append, length-drop}
use Rattle.std.proofs.lemmas.List.{take_all, drop_all, take-append-le}
use Rattle.std.proofs.lemmas.Bool.{ltb-false}
use Rattle.std.specs.Prelude.{nat_lt}
use Rattle.std.proofs.Math.Seq.{take-add}
use Rattle.std.specs.Io.KnownBytes.{Appends, Keeps}
use Rattle.std.proofs.KnownBytes.{Appends-trans, Appends-kept}
use Rattle.std.proofs.lemmas.Fmt.{contents_after_writes}
use Rattle.std.specs.Fmt.{WritesText}
use Rattle.arrayvec.specs.ArrayString.{ArrayString}
use Rattle.std.specs.Prelude.{IfSome}
use Rattle.gas_tool_io.specs.Inner.Sink.{SinkModel, HasSent, Adds}
use Rattle.gas_cells.proofs.Pairs.{texts, texts-next}

-- the next part of a text went out
pub Appends-part : (a b c : Option (List ℕ)) (n k : ℕ) (xs : List ℕ) → Appends a b (take n xs) → Appends b c (take k (take (length xs - n) (drop n xs))) → Appends a c (take (n + k) xs)
Appends-part a b c n k xs p q =
    let whole : take (length xs - n) (drop n xs) ≡ drop n xs = take_all _ _ (omega (arith, length-drop n xs)) in
    subst (Appends a c) (sym (take-add n k xs)) (Appends-trans a b c _ _ p (subst (λ (ys : List ℕ). Appends b c (take k ys)) whole q))

-- a text that grew by nothing
HasSent-same : (start now : Option (List ℕ)) (s : SinkModel) (text : List ℕ) → HasSent start now s text → HasSent start now s (text ++ [])
HasSent-same start now s text h = subst (HasSent start now s) (sym (append-nil text)) h

-- if all went out, nothing waits
none_waits : (w sent : ℕ) (text waiting : List ℕ) → drop w text ≡ waiting → nat_lt sent (length waiting) ≡ false → drop (w + sent) text ≡ []
none_waits w sent text waiting e f =
    let all : length waiting ≤ sent = ltb-false sent (length waiting) f in
    drop_all (w + sent) text (omega (arith, all, length-drop w text, ap length e))

-- the same sink before
pub Adds-from : (a b : Option (List ℕ)) (view before after : SinkModel) (bytes : List ℕ) → view ≡ before → Adds a b view after bytes → Adds a b before after bytes
Adds-from a b view before after bytes e h = subst (λ (s : SinkModel). Adds a b s after bytes) e h

-- a sink that failed keeps to what went out before
pub Adds-failed : (a b : Option (List ℕ)) (before after : SinkModel) (bytes : List ℕ) → b ≡ a → after.written ≡ before.written → after.failed ≡ true → Adds a b before after bytes
Adds-failed a b before after bytes e w f = subst (λ (x : Option (List ℕ)). Adds a x before after bytes) (sym e) (record {
  adds = λ start text h. record {
    within = omega (arith, length-append text bytes, h.within, w);
    out = subst (λ (n : ℕ). Appends start a (take n (text ++ bytes))) (sym w) (subst (Appends start a) (sym (take-append-le before.written text bytes h.within)) h.out);
    waiting = λ ok. absurd (let bad : true ≡ false = sym f ∙ ok in cc);
  };
})

-- a chunk was handed over, and its first `sent` bytes went out
pub Adds-handed : (a b : Option (List ℕ)) (before after : SinkModel) (sent : ℕ) → before.failed ≡ false → sent ≤ length before.waiting
    → Appends a b (take sent before.waiting) → after.written ≡ before.written + sent → after.failed ≡ nat_lt sent (length before.waiting) → after.waiting ≡ []
    → Adds a b before after []
Adds-handed a b before after sent e le out w f none = record {
  adds = λ start text h.
      let held : drop before.written text ≡ before.waiting = h.waiting e in
      let part : Appends a b (take sent (drop before.written text)) = subst (λ (xs : List ℕ). Appends a b (take sent xs)) (sym held) out in
      let gone : Appends start b (take (before.written + sent) text) =
      subst (Appends start b) (sym (take-add before.written sent text)) (Appends-trans start a b _ _ h.out part) in
      HasSent-same start b after text (record {
        within = omega (arith, h.within, le, ap length held, length-drop before.written text, w);
        out = subst (λ (n : ℕ). Appends start b (take n text)) (sym w) gone;
        waiting = λ ok. subst (λ (n : ℕ). drop n text ≡ after.waiting) (sym w) (none_waits before.written sent text before.waiting held (sym f ∙ ok) ∙ sym none);
      });
}

-- texts, one after the other
pub Adds-then : (a b c : Option (List ℕ)) (p q r : SinkModel) (s t : List ℕ) → Adds a b p q s → Adds b c q r t → Adds a c p r (s ++ t)
Adds-then a b c p q r s t h k = record {
  adds = λ start text carried.
      subst (HasSent start c r) (append_assoc text s t) (k.adds start (text ++ s) (h.adds start text carried));
}

-- one more of the texts below a number
pub Adds-next : (a b c : Option (List ℕ)) (p q r : SinkModel) (f : ℕ → List ℕ) (n : ℕ) → Adds a b p q (texts f 0 n) → Adds b c q r (f n) → Adds a c p r (texts f 0 (n + 1))
Adds-next a b c p q r f n h k =
    subst (Adds a c p r) (sym (texts-next f n)) (Adds-then a b c p q r _ _ h k)

-- the same text
pub Adds-same : (a b : Option (List ℕ)) (p q : SinkModel) (text whole : List ℕ) → text ≡ whole → Adds a b p q text → Adds a b p q whole
Adds-same a b p q text whole e h = subst (Adds a b p q) e h

-- bytes that turn one text into another
pub Adds-more : (a b c : Option (List ℕ)) (p q r : SinkModel) (text bytes whole : List ℕ) → text ++ bytes ≡ whole → Adds a b p q text → Adds b c q r bytes → Adds a c p r whole
Adds-more a b c p q r text bytes whole e h more = Adds-same a c p r _ _ e (Adds-then a b c p q r _ _ h more)

-- if nothing waits, the whole text went out, and a flush adds nothing
pub HasSent-whole : (start a b : Option (List ℕ)) (s : SinkModel) (text : List ℕ) → HasSent start a s text → s.failed ≡ false → s.waiting ≡ [] → Keeps a b → Appends start b text
HasSent-whole start a b s text h ok none kept =
    let rest : drop s.written text ≡ [] = h.waiting ok ∙ none in
    let all : take s.written text ≡ text = take_all s.written text (omega (arith, length-drop s.written text, ap length rest)) in
    Appends-kept start a b text (subst (Appends start a) all h.out) kept

-- a line that was written into an empty string, and its bytes were added
pub line_added : (a b : Option (List ℕ)) (p q : SinkModel) (empty full : ArrayString) (line : Option (List ℕ)) (bytes : List ℕ) → empty.bytes ≡ []
    → WritesText (λ (s : ArrayString) bs (t : ArrayString). t.bytes ≡ s.bytes ++ bs) empty line full → bytes ≡ full.bytes → Adds a b p q bytes → IfSome line (Adds a b p q)
line_added a b p q empty full None bytes none writes same added = tt
line_added a b p q empty full (Some text) bytes none writes same added =
    let is : full.bytes ≡ empty.bytes ++ text = contents_after_writes _ (λ s. s.bytes) (λ w bs v e. e) _ _ _ writes in
    subst (Adds a b p q) (same ∙ is ∙ ap (λ (xs : List ℕ). xs ++ text) none) added
