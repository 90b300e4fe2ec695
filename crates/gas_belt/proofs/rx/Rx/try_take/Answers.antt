use Rattle.std.proofs.Common.{◌≡◌, ◌+◌, ◌*◌, ◌<◌, ◌≤◌, ◌++◌, ◌∷◌, [], ℕ, List, Some, length, sym, ap, ◌∙◌, arith, mul-le-mul_left}
use Rattle.std.proofs.lemmas.List.{length-append}
use Rattle.std.proofs.lemmas.List.Elements.{All-pop}
use Rattle.rtrb.specs.Ring.{received, known_items}
use Rattle.gas_rows.specs.Planes.{cells_of}
use Rattle.gas_rows.specs.Row.{RowModel}
use Rattle.gas_belt.specs.Belt.{Receiver}
use Rattle.gas_belt.specs.Inner.Ring.{row_words, rows_in}
use Rattle.gas_belt.proofs.Ends.{same_belt, receiver_is}
use Rattle.gas_belt.proofs.Parts.{parts_length, parts_row}
use Rattle.gas_belt.proofs.rx.Rx.try_take.Goals as goal

pub returns-clause-width : goal.returns-clause-width
returns-clause-width g c =
    let s = c.self.inside in
    let spare = All-pop (λ (r : RowModel). length r ≡ s.width) s.spares.items c.pop-2.new.self.items (Some c.in-Some.row) c.in-Some.ensures.items c.self.invariant.wide in
    c.exchange_words.ensures.wide ∙ spare.1 ∙ ap (λ r. r.belt.width) c.self.view_is

pub returns-clause-taken : goal.returns-clause-taken
returns-clause-taken g c =
    let s = c.self.inside in
    let dirs = g.G.Gas.rules.dirs in
    let before : List RowModel = rows_in dirs s.width s.count (received s.end.ring) in
    let words = c.pop.new.self.words.items in
    let spare = All-pop (λ (r : RowModel). length r ≡ s.width) s.spares.items c.pop-2.new.self.items (Some c.in-Some.row) c.in-Some.ensures.items c.self.invariant.wide in
    let long : length words ≡ row_words dirs s.width = c.pop.ensures.words ∙ c.self.invariant.long in
    let cells : c.exchange_words.new.self ≡ cells_of dirs s.width words = c.exchange_words.ensures.cells ∙ ap (λ k. cells_of dirs k words) spare.1 in
    let taken : rows_in dirs s.width (s.count + 1) (received c.pop.new.self.ring) ≡ before ++ c.exchange_words.new.self ∷ [] =
    ap (rows_in dirs s.width (s.count + 1)) (c.pop.ensures.popped c.if-not-pop.false)
    ∙ parts_row (cells_of dirs s.width) (row_words dirs s.width) s.count (received s.end.ring) words c.self.invariant.counted long
    ∙ ap (λ (r : RowModel). before ++ r ∷ []) (sym cells) in
    let held : s.spares.len ≡ c.args.self.now.held = ap (λ r. r.held) c.self.view_is in
    receiver_is
    (same_belt dirs s.width s.end.ring.end c.pop.new.self.ring.end c.pop.ensures.ring ∙ ap (λ r. r.belt) c.self.view_is)
    (taken ∙ ap (λ (r : Receiver). r.taken ++ c.exchange_words.new.self ∷ []) c.self.view_is)
    (omega (arith, c.in-Some.ensures.cases, held))
    (c.pop-2.ensures.capacity ∙ ap (λ r. r.most) c.self.view_is)
    (ap (λ r. r.come) c.self.view_is)

-- a row more that is known to have come has its words in the ring
row_known : (w received known count come : ℕ) → received ≡ w * count → w * come ≤ received + known → count < come → w ≤ known
row_known w received known count come counted enough below =
    let more : w * (count + 1) ≤ w * come = mul-le-mul_left w (omega (arith, below)) in
    grind arith

pub returns-then-not-pop-clause-succeeds : goal.returns-then-not-pop-clause-succeeds
returns-then-not-pop-clause-succeeds g c = λ held few below.
    let s = c.self.inside in
    let dirs = g.G.Gas.rules.dirs in
    let size = row_words dirs s.width in
    let taken : s.count ≡ length c.args.self.now.taken = sym (parts_length (cells_of dirs s.width) size s.count (received s.end.ring)) ∙ ap (λ (r : Receiver). length r.taken) c.self.view_is in
    let come : s.looked ≡ c.args.self.now.come = ap (λ (r : Receiver). r.come) c.self.view_is in
    let there : size ≤ length (known_items s.end.ring) =
    row_known size (length (received s.end.ring)) (length (known_items s.end.ring)) s.count s.looked c.self.invariant.counted c.self.invariant.known (omega (arith, below, taken, come)) in
    sym c.if-not-pop.true ∙ c.pop.ensures.succeeds (omega (arith, there, c.self.invariant.long))

pub exchange_words-requires : goal.exchange_words-requires
exchange_words-requires g c =
    let s = c.self.inside in
    let spare = All-pop (λ (r : RowModel). length r ≡ s.width) s.spares.items c.pop-2.new.self.items (Some c.in-Some.row) c.in-Some.ensures.items c.self.invariant.wide in
    record { long = c.pop.ensures.places ∙ c.self.invariant.long ∙ ap (row_words g.G.Gas.rules.dirs) (sym spare.1) }

-- the words of one more row
row_more : (w n words row : ℕ) → words ≡ w * n → row ≡ w → words + row ≡ w * (n + 1)
row_more w n words row before one = grind arith

pub invariant_of-self-2 : goal.invariant_of-self-2
invariant_of-self-2 g c =
    let s = c.self.inside in
    let words = c.pop.new.self.words.items in
    let spare = All-pop (λ (r : RowModel). length r ≡ s.width) s.spares.items c.pop-2.new.self.items (Some c.in-Some.row) c.in-Some.ensures.items c.self.invariant.wide in
    let kept = c.exchange_words.ensures.long ∙ c.pop.ensures.places in
    record {
      counted = ap (λ (l : List ℕ). length l) (c.pop.ensures.popped c.if-not-pop.false) ∙ length-append (received s.end.ring) words
          ∙ row_more (row_words g.G.Gas.rules.dirs s.width) s.count _ _ c.self.invariant.counted (c.pop.ensures.words ∙ c.self.invariant.long);
      known = omega (arith, c.self.invariant.known, c.pop.ensures.known);
      long = kept ∙ c.self.invariant.long;
      some = omega (arith, kept, c.self.invariant.some);
      few = omega (arith, c.pop-2.ensures.capacity, c.self.invariant.few);
      wide = spare.0;
      some_cells = c.self.invariant.some_cells;
      few_cells = c.self.invariant.few_cells;
    }
