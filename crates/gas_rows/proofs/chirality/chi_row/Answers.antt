use Rattle.std.proofs.Common.{true, false, replicate, map, sym, ap, ap₂, ◌∙◌}
use Rattle.std.specs.List.{range_with_len}
use Rattle.gas_rows.specs.Chirality.{chirality_bit}
use Rattle.gas_rows.specs.declared.chirality.Chirality.TheVariants.{Seeded}
use Rattle.gas_rows.proofs.Masks.{replicate-map}
use Rattle.gas_rows.proofs.chirality.chi_row.Goals as goal

pub returns-in-Left-clause-bits : goal.returns-in-Left-clause-bits
returns-in-Left-clause-bits c =
    c.fill.ensures ∙ ap (λ n. replicate n true) c.requires.wide
    ∙ replicate-map (λ x. chirality_bit c.args.chirality c.args.width c.args.generation x c.args.y) c.args.width true
    (λ x. ap (λ q. chirality_bit q c.args.width c.args.generation x c.args.y) c.in-Left.is)

pub returns-in-Right-clause-bits : goal.returns-in-Right-clause-bits
returns-in-Right-clause-bits c =
    c.fill-in-Right.ensures ∙ ap (λ n. replicate n false) c.requires.wide
    ∙ replicate-map (λ x. chirality_bit c.args.chirality c.args.width c.args.generation x c.args.y) c.args.width false
    (λ x. ap (λ q. chirality_bit q c.args.width c.args.generation x c.args.y) c.in-Right.is)

pub returns-in-Seeded-clause-bits : goal.returns-in-Seeded-clause-bits
returns-in-Seeded-clause-bits c =
    c.write_seeded_row.ensures.bits (Seeded c.in-Seeded.seed) c.generator_of.ensures.key
    ∙ ap₂ (λ q n. map (λ x. chirality_bit q n c.args.generation x c.args.y) (range_with_len 0 n)) (sym c.in-Seeded.is) c.requires.wide
