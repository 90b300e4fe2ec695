use Rattle.std.proofs.Common.{◌≡◌, suc, ◌+◌, ◌*◌, ◌^◌, ◌<◌, ◌≤◌, length, get_or, refl, ap, subst, ◌∙◌, arith}
use Rattle.std.specs.Prelude.{count_ones}
use Rattle.std.proofs.Math.Nat.{mul-le-mul_right}
use Rattle.gas_geom.proofs.Sums.{sum_below}
use Rattle.gas_bits.specs.Words.{words_in}
use Rattle.gas_rows.proofs.Counting.{particles-ones}
use Rattle.gas_bits.proofs.Counting.{ones-le_64}
use Rattle.gas_rows.proofs.row.Row.count.Goals as goal

pub loop-word-init : goal.loop-word-init
loop-word-init g c = record { so_far = refl; fits = λ k. (c.type_inv.word-items k).fits; bounded = omega arith }

pub loop-word-preserved : goal.loop-word-preserved
loop-word-preserved g c =
    let items = c.deref-word-items.result.now in
    let i = c.loop-word.word-index in
    record {
      so_far = ap (λ t. t + count_ones (get_or items i 0)) c.loop-word.invariant.so_far
          ∙ ap (λ k. sum_below k (λ k. count_ones (get_or items k 0))) (let e : suc i ≡ i + 1 = omega arith in e);
      fits = c.loop-word.invariant.fits;
      bounded = omega (arith, ones-le_64 (get_or items i 0) (c.loop-word.invariant.fits i));
    }

pub overflow_add-total : goal.overflow_add-total
overflow_add-total g c =
    let items = c.deref-word-items.result.now in
    let i = c.loop-word.word-index in
    let count = words_in c.self.inside.width in
    let all : length items ≡ g.G.Gas.rules.dirs * count = ap length c.deref-word-items.ensures.value ∙ c.self.invariant.long in
    let few : g.G.Gas.rules.dirs * count ≤ 8 * count = mul-le-mul_right count g.met.G.Gas.laws.few_dirs in
    omega (arith, ones-le_64 (get_or items i 0) (c.loop-word.invariant.fits i), c.self.invariant.few_cells)

pub returns : goal.returns
returns g c = record {
  count =
      let items = c.deref-word-items.result.now in
      let words = c.self.inside.words.items in
      let all : c.loop-word.word-index ≡ length words = omega (arith, ap length c.deref-word-items.ensures.value) in
      c.loop-word.invariant.so_far
      ∙ ap (λ k. sum_below k (λ k. count_ones (get_or items k 0))) all
      ∙ ap (λ ws. sum_below (length words) (λ k. count_ones (get_or ws k 0))) c.deref-word-items.ensures.value
      ∙ particles-ones g.G.Gas.rules.dirs c.self.inside.width words c.args.self.now c.self.invariant c.self.view_is
      (λ k. subst (λ ws. get_or ws k 0 < 2 ^ 64) c.deref-word-items.ensures.value (c.loop-word.invariant.fits k));
}
