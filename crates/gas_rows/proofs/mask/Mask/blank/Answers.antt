use Rattle.std.proofs.Common.{ℕ, true, replicate, ap, ◌∙◌, sym, subst}
use Rattle.gas_rows.specs.Inner.Mask.{cells, IsMask}
use Rattle.gas_rows.proofs.Masks.{IsMask-blank, cells-blank}
use Rattle.gas_rows.proofs.mask.Mask.blank.Goals as goal

pub invariant_of-result : goal.invariant_of-result
invariant_of-result c =
    let zeros = c.in_ok-words.ensures.items_if_clones_equal (λ y h. h) ∙ ap (λ n. replicate {A = ℕ} n 0) c.words_for.ensures.value in
    subst (IsMask c.args.width true) (sym zeros) (IsMask-blank c.args.width c.requires.some_cells c.requires.few_cells)

pub returns : goal.returns
returns c = record {
  value =
      let zeros = c.in_ok-words.ensures.items_if_clones_equal (λ y h. h) ∙ ap (λ n. replicate {A = ℕ} n 0) c.words_for.ensures.value in
      ap (cells c.args.width) zeros ∙ cells-blank c.args.width;
}
