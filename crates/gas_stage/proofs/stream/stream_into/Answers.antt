use Rattle.std.proofs.Common.{◌≡◌, ℕ, List, Bool, false, get_or, ap, sym, ◌∙◌, arith}
use Rattle.gas_bits.specs.Words.{words_in}
use Rattle.gas_rows.specs.Planes.{cells_of}
use Rattle.gas_stage.proofs.stream.stream_into.Goals as goal

pub invariant_of-neighbourhood : goal.invariant_of-neighbourhood
invariant_of-neighbourhood g c =
    let wide : c.width.result ≡ c.args.channel.now.width = c.width.ensures.value ∙ c.requires.wide in
    record {
      some_cells = c.width.ensures.some_cells;
      few_cells = c.width.ensures.few_cells;
      solid_above_long = c.words.ensures.long ∙ ap words_in (c.mask_beside-solid_above.ensures.wide ∙ sym wide);
      solid_middle_long = c.words-2.ensures.long ∙ ap words_in (c.mask-solid_middle.ensures.wide ∙ sym wide);
      solid_below_long = c.words-3.ensures.long ∙ ap words_in (c.mask_beside-solid_below.ensures.wide ∙ sym wide);
      fluid_above = λ all x. c.words.ensures.bits x ∙ c.is_blank-2.ensures.blank (let e = all in grind arith) x;
      fluid_middle = λ all x. c.words-2.ensures.bits x ∙ c.is_blank.ensures.blank (let e = all in grind arith) x;
      fluid_below = λ all x. c.words-3.ensures.bits x ∙ c.is_blank-3.ensures.blank (let e = all in grind arith) x;
    }

pub returns-clause-streamed : goal.returns-clause-streamed
returns-clause-streamed g c = λ at about.
    let dirs : ℕ = g.G.Gas.rules.dirs in
    let wide : c.width.result ≡ c.args.channel.now.width = c.width.ensures.value ∙ c.requires.wide in
    let above = ap (λ (w : ℕ). cells_of dirs w c.as_words.result.now) (wide ∙ sym c.requires.above_wide) ∙ c.as_words.ensures.cells in
    let middle = ap (λ (w : ℕ). cells_of dirs w c.as_words-2.result.now) (wide ∙ sym c.requires.middle_wide) ∙ c.as_words-2.ensures.cells in
    let below = ap (λ (w : ℕ). cells_of dirs w c.as_words-3.result.now) (wide ∙ sym c.requires.below_wide) ∙ c.as_words-3.ensures.cells in
    c.advance.ensures.advanced c.args.channel.now at (record {
      wide = wide;
      rows = record {
        up_is = λ some x h fluid. ap (λ (r : List ℕ). get_or r x 0) above ∙ about.up_is some x h fluid;
        mid_is = λ x h fluid. ap (λ (r : List ℕ). get_or r x 0) middle ∙ about.mid_is x h fluid;
        down_is = λ more x h fluid. ap (λ (r : List ℕ). get_or r x 0) below ∙ about.down_is more x h fluid;
      };
      solid_above = λ x h. c.words.ensures.bits x ∙ c.mask_beside-solid_above.ensures.cells x h;
      solid_middle = λ x h. c.words-2.ensures.bits x ∙ ap (λ (mask : List Bool). get_or mask x false) c.mask-solid_middle.ensures.row;
      solid_below = λ x h. c.words-3.ensures.bits x ∙ c.mask_beside-solid_below.ensures.cells x h;
    })
