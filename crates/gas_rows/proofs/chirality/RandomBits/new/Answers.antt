use Rattle.std.proofs.Common.{◌≡◌, ℕ, Bool, List, true, false, length, replicate, ap, ◌∙◌, sym, subst}
use Rattle.std.proofs.lemmas.List.{length-replicate}
use Rattle.rand_chacha.specs.ChaCha.{ChaCha, key_of}
use Rattle.gas_rows.specs.Key.{key_bytes}
use Rattle.gas_rows.specs.Chirality.{chirality_bit}
use Rattle.gas_rows.specs.declared.chirality.Chirality.{Chirality}
use Rattle.gas_rows.specs.Inner.Key.{IsGeneratorOf, chirality_row}
use Rattle.gas_rows.proofs.Masks.{replicate-map}
use Rattle.gas_rows.proofs.chirality.RandomBits.new.Goals as goal
use Rattle.gas_rows.proofs.chirality.RandomBits.new.Goals.{in-Seeded, in-Left, in-Right}

-- bits that are all alike are those of every row
row-alike : (q : Chirality) (bits : List Bool) (n : ℕ) (value : Bool) → bits ≡ replicate n value →
    ((width g x y : ℕ) → chirality_bit q width g x y ≡ value) → (g y : ℕ) → bits ≡ chirality_row q (length bits) g y
row-alike q bits n value e same g y =
    e ∙ ap (λ m. replicate m value) (sym (ap length e ∙ length-replicate n value))
    ∙ replicate-map (λ x. chirality_bit q (length bits) g x y) (length bits) value (λ x. same (length bits) g x y)

pub invariant_of-result : goal.invariant_of-result
invariant_of-result c = elim c.match-chirality.branch [
  | in-Seeded w ↦ record {
    drawn = λ x e.
        let same : w.generator_of.result ≡ x = cc in
        let key : x.key ≡ key_of (key_bytes w.in-Seeded.seed) = ap (λ (g : ChaCha). g.key) (sym same) ∙ w.generator_of.ensures.key in
        subst (λ q. IsGeneratorOf q x) (sym w.chirality-is) key;
    alike = λ none. absurd (cc);
  }
  | in-Left w ↦ record {
    drawn = λ x e. absurd (cc);
    alike = λ none. row-alike c.match-chirality.chirality c.match-chirality.bits _ true (w.bits-is ∙ w.fill.ensures)
        (λ width g x y. ap (λ q. chirality_bit q width g x y) (w.chirality-is ∙ w.in-Left.is));
  }
  | in-Right w ↦ record {
    drawn = λ x e. absurd (cc);
    alike = λ none. row-alike c.match-chirality.chirality c.match-chirality.bits _ false (w.bits-is ∙ c.in_ok-bits.ensures.value)
        (λ width g x y. ap (λ q. chirality_bit q width g x y) (w.chirality-is ∙ w.in-Right.is));
  }
]
