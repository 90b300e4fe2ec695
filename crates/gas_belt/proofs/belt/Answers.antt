use Rattle.std.proofs.Common.{rules, ◌≡◌, ◌∙◌, sym, ap, ℕ, ◌*◌, ◌/◌, ◌<◌, List, length, arith}
use Rattle.std.proofs.lemmas.List.{length-replicate}
use Rattle.std.proofs.Math.Nat.{mul-div_cancel_left}
use Rattle.rtrb.specs.Ends.{capacity_of}
use Rattle.gas_bits.specs.Words.{words_in}
use Rattle.gas_belt.specs.Belt.{Sender}
use Rattle.gas_belt.specs.Inner.Ring.{row_words}
use Rattle.gas_belt.proofs.belt.Goals as goal

pub returns-clause-capacity : goal.returns-clause-capacity
returns-clause-capacity g c =
    let dirs = g.G.Gas.rules.dirs in
    let size = row_words dirs c.args.width in
    let some : 0 < size = search rules in
    let wide : length c.in_ok-row.row ≡ c.args.width = ap (λ (r : List ℕ). length r) c.in_ok-row.ensures.value ∙ length-replicate c.args.width 0 in
    let long : length c.as_words.result.now ≡ size = c.as_words.ensures.words.long ∙ ap (λ (k : ℕ). dirs * words_in k) wide in
    let ring = c.in_ok-producer.producer in
    let places : capacity_of ring.end ≡ c.args.capacity * size =
    sym ring.writes.2 ∙ c.in_ok-producer.ensures.producer.2 ∙ ap (λ (k : ℕ). c.args.capacity * k) (search rules) in
    let turned : c.args.capacity * size ≡ size * c.args.capacity = grind arith in
    ap (λ (t : Sender). t.belt.capacity) c.new-3.ensures.fresh ∙ ap (λ (k : ℕ). k / size) (places ∙ turned) ∙ mul-div_cancel_left c.args.capacity some
