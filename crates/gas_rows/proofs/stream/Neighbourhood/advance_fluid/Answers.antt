use Rattle.std.proofs.Common.{◌∙◌, sym}
use Rattle.gas_rows.proofs.stream.Neighbourhood.advance_fluid.Goals as goal

pub returns-clause-advanced : goal.returns-clause-advanced
returns-clause-advanced g c = λ ch at about.
    c.write_row.ensures.advanced ch at (record {
      wide = about.wide;
      rows = about.rows;
      solid_above = λ x h. c.no_solid-solid.ensures.none x ∙ sym (about.fluid_above x h);
      solid_middle = λ x h. c.no_solid-solid.ensures.none x ∙ sym (about.fluid_middle x h);
      solid_below = λ x h. c.no_solid-solid.ensures.none x ∙ sym (about.fluid_below x h);
    })
