-- What a worker has done, seen from its two lists.
use Rattle.std.proofs.Common.{◌≡◌, Bool, true, false, ℕ, ◌+◌, ◌<◌, ◌≤◌, ◌++◌, ◌∷◌, Option, Some, None, IsSome, List, [], length, ap, ◌∙◌, sym, refl, append_assoc, append-nil, length-append, subst, arith}
use Rattle.std.specs.Option.{option_to_list}
use Rattle.gas_geom.specs.Gas.{Rules}
use Rattle.gas_geom.specs.Channel.{ChannelModel}
use Rattle.gas_stage.specs.Stages.{StagesModel, MayAllHaveBeenFed, given_by}
use Rattle.gas_stage.proofs.OwedBy.{owed_by-no_more}
use Rattle.gas_pipe_model.proofs.Prefixes.{prefix_length}
use Rattle.gas_rows.specs.Row.{RowModel}
use mathlib.Core.List.{IsPrefix}
use Rattle.gas_pipe_members.proofs.Composed.{given_by_prefix, fed_long, given_by_none, fed_short, fed_unflushed, fed_all}
use Rattle.gas_pipe_members.specs.Worker.{WorkerModel, IsClosed, MayHaveDone, owes}

module _ (gas : Rules) (w : WorkerModel) (es : List (Option ℕ)) (took gave : List RowModel) (done : MayHaveDone gas w es took gave) where
  pub done_prefix : IsPrefix gave (owes gas w es took)
  done_prefix =
      let before = given_by_prefix gas w.stages.channel w.stages.chirality w.stages.flushed es took done.few in (
        option_to_list w.waiting ++ before.0,
        sym (append_assoc gave (option_to_list w.waiting) before.0) ∙ ap (λ (l : List RowModel). l ++ before.0) done.put_returned ∙ before.1,
      )

  -- a worker puts at most as many rows as it took
  pub gave_few : length gave ≤ length took
  gave_few = omega (arith, prefix_length gave (owes gas w es took) done_prefix, owed_by-no_more gas w.stages.channel w.stages.chirality es took)

  -- and at most one fewer for each stage and for the row that waits
  pub gave_most : length took ≤ length gave + length (option_to_list w.waiting) + length w.stages.stages
  gave_most =
      omega (
        arith,
        ap (λ (l : List RowModel). length l) done.put_returned,
        length-append gave (option_to_list w.waiting),
        fed_long gas w.stages.channel w.stages.chirality w.stages.flushed w.stages.stages es took done.fed.each done.few,
      )

  module _ (none : w.waiting ≡ None) where
    pub put_all : gave ≡ given_by gas w.stages.channel w.stages.chirality w.stages.flushed es took
    put_all = sym (append-nil gave) ∙ ap (λ (o : Option RowModel). gave ++ option_to_list o) (sym none) ∙ done.put_returned

    -- if rows are still to come, all that is owed was put
    pub more_all : w.stages.fed < w.stages.channel.height → (length took < w.stages.channel.height) × (gave ≡ owes gas w es took)
    more_all low =
        let fewer : length took < w.stages.channel.height = omega (arith, done.fed.fed) in
        (fewer, put_all ∙ fed_short gas w.stages.channel w.stages.chirality w.stages.flushed w.stages.stages es took done.fed.each fewer)

  -- if no pass is open, nothing is left to put
  pub closed_all : IsClosed w → gave ≡ owes gas w es took
  closed_all closed =
      put_all closed.waiting ∙ fed_all gas w.stages.channel w.stages.chirality w.stages.flushed w.stages.stages es took done.fed.each closed.stages

  -- while more is returned than was put, not all that is owed was put
  pub still_owes : (flushed : ℕ) (row : Option RowModel) → IsSome row → gave ++ option_to_list row ≡ given_by gas w.stages.channel w.stages.chirality flushed es took →
      gave ≡ owes gas w es took → ⊥
  still_owes flushed None some more all = cc
  still_owes flushed (Some row) some more all =
      let before = prefix_length (given_by gas w.stages.channel w.stages.chirality flushed es took) (owes gas w es took)
      (given_by_prefix gas w.stages.channel w.stages.chirality flushed es took done.few) in
      omega (arith, before, ap (λ (l : List RowModel). length l) more, length-append gave (row ∷ []), ap (λ (l : List RowModel). length l) all)

no_stray : (stray : Bool) (flushed n : ℕ) → (stray ≡ true → flushed < n) → flushed ≡ n → stray ≡ false
no_stray true flushed n in_pass all = absurd (omega (arith, in_pass refl, all))
no_stray false flushed n in_pass all = refl

-- a pass that begins
begun : (gas : Rules) (w : WorkerModel) (es : List (Option ℕ)) → w.stray ≡ false → w.waiting ≡ None → w.stages.flushed ≡ 0 → 0 < length w.stages.stages →
    MayAllHaveBeenFed gas w.stages es [] → MayHaveDone gas w es [] []
begun gas w es no_stray none unflushed some fed = record {
  no_stray = no_stray;
  few = omega arith;
  fed = fed;
  took_all = λ all. absurd (omega (arith, all, unflushed, some));
  put_returned = ap (λ (o : Option RowModel). option_to_list o) none ∙ sym (given_by_none gas w.stages.channel w.stages.chirality w.stages.flushed es);
}

-- its pass begins, once no pass is open
pub begins : (gas : Rules) (w old : WorkerModel) (s : StagesModel) (es : List (Option ℕ)) → w ≡ old → IsClosed old →
    (w.stray ≡ true → w.stages.flushed < length w.stages.stages) → 0 < length w.stages.stages → length s.stages ≡ length w.stages.stages →
    s.flushed ≡ 0 → MayAllHaveBeenFed gas s es [] → MayHaveDone gas (record w { stages = s }) es [] []
begins gas w old s es is closed stray_in_pass some count unflushed fed =
    begun gas (record w { stages = s }) es
    (no_stray w.stray w.stages.flushed (length w.stages.stages) stray_in_pass
    (subst (λ (u : WorkerModel). u.stages.flushed ≡ length u.stages.stages) (sym is) closed.stages))
    (ap (λ (u : WorkerModel). u.waiting) is ∙ closed.waiting) unflushed (omega (arith, count, some)) fed

-- a row was fed
pub accepted : (gas : Rules) (old new : WorkerModel) (row : RowModel) (es : List (Option ℕ)) (took gave : List RowModel) → MayHaveDone gas old es took gave →
    new.stray ≡ old.stray → new.stages.channel ≡ old.stages.channel → new.stages.chirality ≡ old.stages.chirality → old.waiting ≡ None →
    new.stages.flushed ≡ 0 → 0 < length new.stages.stages → old.stages.fed < old.stages.channel.height →
    MayAllHaveBeenFed gas new.stages es (took ++ row ∷ []) →
    given_by gas old.stages.channel old.stages.chirality 0 es (took ++ row ∷ [])
    ≡ given_by gas old.stages.channel old.stages.chirality 0 es took ++ option_to_list new.waiting →
    MayHaveDone gas new es (took ++ row ∷ []) gave
accepted gas old new row es took gave done stray channel chirality none unflushed some low fed gives = record {
  no_stray = stray ∙ done.no_stray;
  few = omega (arith, length-append took (row ∷ []), done.fed.fed, ap (λ (c : ChannelModel). c.height) channel);
  fed = fed;
  took_all = λ all. absurd (omega (arith, all, unflushed, some));
  put_returned =
      rw (channel, chirality, unflushed) (ap (λ (l : List RowModel). l ++ option_to_list new.waiting)
      (put_all gas old es took gave done none
      ∙ fed_unflushed gas old.stages.channel old.stages.chirality old.stages.flushed old.stages.stages es took done.fed.each (omega (arith, done.fed.fed)))
      ∙ sym gives);
}
