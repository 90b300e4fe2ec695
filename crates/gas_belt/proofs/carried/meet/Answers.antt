use Rattle.std.proofs.Common.{◌≡◌, ℕ, ◌*◌, ◌<◌, ◌≤◌, ◌++◌, List, length, sym, ap, ap₂, ◌∙◌, arith}
use mathlib.Core.List.{IsPrefix}
use Rattle.rtrb.specs.Ring.{sent, received, known_items}
use Rattle.gas_rows.specs.Planes.{cells_of}
use Rattle.gas_belt.specs.Inner.Ring.{row_words, rows_in}
use Rattle.gas_belt.proofs.Parts.{parts-append, parts-read, parts_length}
use Rattle.gas_belt.proofs.carried.meet.Goals as goal

pub returns-then-spent-rx-clause-prefix : goal.returns-then-spent-rx-clause-prefix
returns-then-spent-rx-clause-prefix g c =
    let s = c.spent.inside in
    let r = c.rx.inside in
    let dirs = g.G.Gas.rules.dirs in
    let same : r.width ≡ s.width =
    ap (λ x. x.belt.width) c.rx.view_is ∙ ap (λ b. b.width) (sym c.requires.one_belt) ∙ ap (λ x. x.belt.width) (sym c.spent.view_is) in
    let look = c.slots_beside.ensures in
    let rest = known_items c.slots_beside.new.self in
    let all : received r.end.ring ++ rest ≡ sent s.ring = ap (λ (xs : List ℕ). xs ++ rest) (sym look.looked.1) ∙ look.fifo ∙ look.producer.1 in
    let some : 0 < row_words dirs r.width = omega (arith, c.rx.invariant.long, c.rx.invariant.some) in
    let long : length (sent s.ring) ≡ row_words dirs r.width * s.count =
    c.spent.invariant ∙ ap (λ w. row_words dirs w * s.count) (sym same) in
    let prefix : IsPrefix (rows_in dirs r.width r.count (received r.end.ring)) (rows_in dirs r.width s.count (sent s.ring)) =
    parts-read (cells_of dirs r.width) (row_words dirs r.width) r.count s.count (received r.end.ring) rest (sent s.ring)
    some c.rx.invariant.counted all long in (
      prefix.0,
      ap (λ x. x.taken ++ prefix.0) (sym c.rx.view_is) ∙ prefix.1 ∙ ap (λ w. rows_in dirs w s.count (sent s.ring)) same
          ∙ ap (λ x. x.put) c.spent.view_is,
    )

pub invariant_of-result : goal.invariant_of-result
invariant_of-result g c =
    let s = c.spent.inside in
    let r = c.rx.inside in
    let dirs = g.G.Gas.rules.dirs in
    let size = row_words dirs r.width in
    let same : r.width ≡ s.width =
    ap (λ x. x.belt.width) c.rx.view_is ∙ ap (λ b. b.width) (sym c.requires.one_belt) ∙ ap (λ x. x.belt.width) (sym c.spent.view_is) in
    let look = c.slots_beside.ensures in
    let went = sent c.slots_beside.new.producer in
    let rest = known_items c.slots_beside.new.self in
    let all : received r.end.ring ++ rest ≡ went = ap (λ (xs : List ℕ). xs ++ rest) (sym look.looked.1) ∙ look.fifo in
    let enough : size * r.count ≤ length (received r.end.ring) = omega (arith, c.rx.invariant.counted) in
    let taken : rows_in dirs r.width r.count (received r.end.ring) ≡ rows_in dirs s.width s.count went =
    sym (parts-append (cells_of dirs r.width) size r.count (received r.end.ring) rest enough)
    ∙ ap (rows_in dirs r.width r.count) all
    ∙ ap₂ (λ w n. rows_in dirs w n went) same (sym c.if-spent-rx.false) in record {
      same_rows = ap (λ x. x.taken) c.of-2.ensures ∙ ap (rows_in dirs r.width r.count) look.looked.1 ∙ taken ∙ ap (λ x. x.put) (sym c.of.ensures);
      count = sym (parts_length (cells_of dirs s.width) (row_words dirs s.width) s.count went)
          ∙ ap (λ x. length x.put) (sym c.of.ensures);
    }
