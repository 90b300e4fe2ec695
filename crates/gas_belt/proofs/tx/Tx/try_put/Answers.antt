use Rattle.std.proofs.Common.{◌≡◌, ℕ, ◌+◌, ◌*◌, ◌/◌, ◌<◌, ◌≤◌, length, sym, ap, ◌∙◌, arith, mul-le-mul_left}
use Rattle.std.proofs.Math.Nat.{mul-div-le}
use Rattle.rtrb.specs.Ends.{capacity_of}
use Rattle.rtrb.specs.Ring.{sent, known_free}
use Rattle.gas_bits.specs.Words.{words_in}
use Rattle.gas_rows.specs.Planes.{cells_of}
use Rattle.gas_belt.specs.Belt.{Sender}
use Rattle.gas_belt.specs.Inner.Ring.{row_words}
use Rattle.gas_belt.proofs.Parts.{parts_length}
use Rattle.gas_belt.proofs.tx.Tx.try_put.Goals as goal

-- places for one more row have its words
row_free : (w places looked put free : ℕ) → places + w * looked ≤ w * put + free → put < places / w + looked → w ≤ free
row_free w places looked put free known room =
    let whole : w * (places / w) ≤ places = mul-div-le places w in
    let more : w * (put + 1) ≤ w * (places / w + looked) = mul-le-mul_left w (omega (arith, room)) in
    grind arith

pub returns-in_default-clause-succeeds : goal.returns-in_default-clause-succeeds
returns-in_default-clause-succeeds g c = λ wide below room.
    let s = c.self.inside in
    let dirs = g.G.Gas.rules.dirs in
    let size = row_words dirs s.width in
    let here : length c.args.row ≡ s.width = sym c.width.ensures.value ∙ c.if-width-self.false in
    let long : length c.as_words.result.now ≡ size = c.as_words.ensures.words.long ∙ ap (λ k. dirs * words_in k) here in
    let put : s.count ≡ length c.args.self.now.put = sym (parts_length (cells_of dirs s.width) size s.count (sent s.ring)) ∙ ap (λ (t : Sender). length t.put) c.self.view_is in
    let limit : capacity_of s.ring.end / size + s.looked ≡ c.args.self.now.limit = ap (λ (t : Sender). t.limit) c.self.view_is in
    let free : size ≤ known_free s.ring = row_free size (capacity_of s.ring.end) s.looked s.count (known_free s.ring) (omega (arith, c.self.invariant.counted, c.self.invariant.known)) (omega (arith, room, put, limit)) in
    absurd (omega (arith, free, long, c.in_default.ensures.full.0.2, c.in_default.ensures.full.2))
