use Rattle.std.proofs.Common.{◌≡◌, ◌/◌, ◌%◌, ◌<◌, ℕ, Bool, if◌then◌else◌, List, get_or, set, ap, ◌∙◌, arith}
use Rattle.std.specs.Prelude.{◌==◌}
use Rattle.gas_geom.specs.Gas.{holds}
use Rattle.gas_rows.proofs.Masks.{width_of, word-within, IsMask-set, cells-set}
use Rattle.gas_bits.proofs.Words.{read_at}
use Rattle.gas_rows.proofs.mask.Mask.set.Goals.{After-self-2-1}
use Rattle.gas_rows.proofs.mask.Mask.set.Goals as goal

put : (c : After-self-2-1) → (i : ℕ) → i < 64 →
    holds c.with_bit.result i ≡ (if i == c.args.x % 64 then c.args.value else holds (get_or c.self.inside.words.items (c.args.x / 64) 0) i)
put c i h =
    let words = c.self.inside.words.items in
    let within = word-within c.self.inside.width words c.args.self.now c.self.invariant c.self.view_is c.args.x c.requires.within in
    c.with_bit.ensures.bits i h
    ∙ ap (λ w. if i == c.args.x % 64 then c.args.value else holds w i) (read_at words (c.args.x / 64) c.index.result.now within c.index.ensures)

pub invariant_of-self : goal.invariant_of-self
invariant_of-self c =
    let width = c.self.inside.width in
    let words = c.self.inside.words.items in
    IsMask-set width words c.args.x c.with_bit.result c.args.value c.self.invariant (omega (arith, width_of width words c.args.self.now c.self.view_is)) (put c)

pub returns : goal.returns
returns c = record {
  written =
      let width = c.self.inside.width in
      let words = c.self.inside.words.items in
      cells-set width words c.args.x c.with_bit.result c.args.value c.self.invariant (omega (arith, width_of width words c.args.self.now c.self.view_is)) (put c)
      ∙ ap (λ (cells : List Bool). set cells c.args.x c.args.value) c.self.view_is;
}
