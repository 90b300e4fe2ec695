use Rattle.std.proofs.Common.{◌≡◌, ℕ, Bor, Option, Some, None, IsSome, unwrap_or, List, [], get_or, refl, ap, ◌∙◌}
use Rattle.std.specs.Option.{option_copied}
use Rattle.std.proofs.lemmas.Bool.{false≢true}
use Rattle.gas_stage.proofs.stream.stream_row.Goals as goal

there : (row : Option (Bor (List ℕ))) (other : Bor (List ℕ)) → IsSome row → (unwrap_or row other).now ≡ unwrap_or (option_copied row) []
there None other some = absurd (false≢true some)
there (Some r) other some = refl

pub returns-clause-streamed : goal.returns-clause-streamed
returns-clause-streamed g c = λ at rows.
    c.stream_into.ensures.streamed at (record {
      up_is = λ above x h fluid.
          ap (λ (r : Bor (List ℕ)). get_or r.now x 0) c.unwrap_or.ensures
          ∙ ap (λ (r : List ℕ). get_or r x 0) (there c.args.up c.args.mid (c.requires.up_there.1 above)) ∙ rows.up_is above x h fluid;
      mid_is = rows.mid_is;
      down_is = λ below x h fluid.
          ap (λ (r : Bor (List ℕ)). get_or r.now x 0) c.unwrap_or-2.ensures
          ∙ ap (λ (r : List ℕ). get_or r x 0) (there c.args.down c.args.mid (c.requires.down_there.1 below)) ∙ rows.down_is below x h fluid;
    })
