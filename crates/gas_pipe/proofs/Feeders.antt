-- The steps of the feeder of a run.
use Rattle.std.proofs.Common.{◌≡◌, ◌+◌, ◌<◌, ◌≤◌, List, [], ◌∷◌, Option, None, Some, length, length-append, ap, sym, subst, ◌∙◌, arith}
use Rattle.std.specs.Int.{div_ceil}
use Rattle.gas_geom.specs.Gas.{Rules}
use Rattle.gas_rows.specs.Row.{RowModel}
use Rattle.gas_pipe_model.specs.Pass.{RunInputModel}
use Rattle.gas_belt.specs.Belt.{Sender, Receiver}
use Rattle.gas_pipe_members.specs.Ends.{MayGet, Sends, Takes}
use Rattle.gas_pipe_members.specs.Feeder.{FeederModel, MayHaveFed, Keeps, Gives, Feeds}
use Rattle.gas_pipe.specs.Inner.Feeder.{MayHaveFedInput, LineFeederModel, HasFed}
use Rattle.gas_pipe.proofs.Ends.{one_more, takes, gets, puts, lends, took, sent}

fed_on : (gas : Rules) (input : RunInputModel) (f v : FeederModel) (p t p2 t2 : List RowModel) (puts takes : List RowModel → List RowModel) → MayHaveFedInput gas input f p t →
    v.channel ≡ f.channel → Feeds f puts takes v → p2 ≡ puts p → t2 ≡ takes t → MayHaveFedInput gas input v p2 t2
fed_on gas input f v p t p2 t2 puts takes was channel feeds put took = record {
  is_input = was.is_input;
  some = was.some;
  channel = channel ∙ was.channel;
  fed =
      let passes = div_ceil input.plan.generations input.plan.stages in
      subst (λ (l : List RowModel). MayHaveFed v passes input.lattice.rows l t2) (sym put)
      (subst (λ (l : List RowModel). MayHaveFed v passes input.lattice.rows (puts p) l) (sym took) (feeds passes input.lattice.rows p t was.fed));
}

-- a step of it between its ends
module _ {gas : Rules} {input : RunInputModel} {f : LineFeederModel} (was : HasFed gas input f) (v : FeederModel) (r : Receiver) (t : Sender)
    (channel : v.channel ≡ f.feeder.channel) where
  abbrev now : LineFeederModel
  now = record { feeder = v; tx = t; rx = r }

  pub fed_took : (row : RowModel) (spare : Option RowModel) → Takes takes gets f.rx row spare r → Gives f.feeder.channel.width f.feeder.spares spare v.spares →
      t ≡ f.tx → Feeds f.feeder (λ l. l) (one_more row) v → f.feeder.to_put < f.feeder.to_take → (0 < f.feeder.spares → v.spares < f.feeder.spares) →
      f.rx.belt.width ≡ f.feeder.channel.width → HasFed gas input now
  fed_took row spare step gives rests feeds ahead less wide =
      let end = took f.rx r row spare step in
      let given = gave spare step.got gives in
      record {
        fed = fed_on gas input f.feeder v f.tx.put f.rx.taken t.put r.taken (λ l. l) (one_more row) was.fed channel feeds (ap (λ (s : Sender). s.put) rests) end.0;
        spares = omega (arith, given.0, was.spares, ap (λ (l : List RowModel). length l) end.0, length-append f.rx.taken (row ∷ []), ap (λ (s : Sender). length s.put) rests);
        held = given.1;
        room = given.2;
      }
    where
      between : Receiver
      between = step.between

      gave : (o : Option RowModel) → MayGet gets between o r → Gives f.feeder.channel.width f.feeder.spares o v.spares → (v.spares + 1 ≡ f.feeder.spares) × (2 ≤ r.held) × (2 ≤ r.most)
      gave None got none = absurd (omega (arith, none, less (omega (arith, was.spares, was.fed.fed.puts, was.fed.fed.takes, ahead))))
      gave (Some other) got one = (
        one.1,
        omega (
          arith,
          got.1 (one.0 ∙ sym wide ∙ sym (ap (λ (e : Receiver). e.belt.width) step.took.0)),
          ap (λ (e : Receiver). e.held) step.took.0,
          ap (λ (e : Receiver). e.most) step.took.0,
          was.held,
          was.room,
        ),
        omega (arith, ap (λ (e : Receiver). e.most) got.0, ap (λ (e : Receiver). e.most) step.took.0, was.room),
      )

  pub fed_put : (row : RowModel) (spare : Option RowModel) → Sends puts lends f.tx row spare t → Keeps f.feeder.channel.width f.feeder.spares spare v.spares →
      r ≡ f.rx → Feeds f.feeder (one_more row) (λ l. l) v → f.tx.belt.width ≡ f.feeder.channel.width → HasFed gas input now
  fed_put row spare step keeps rests feeds wide =
      let end = sent f.tx t row spare step in
      let same : spare ≡ Some row = step.lent.0 ∙ ap (λ (s : Sender). s.spare) step.put.0 in
      let kept : v.spares ≡ f.feeder.spares + 1 =
      subst (λ (o : Option RowModel). Keeps f.feeder.channel.width f.feeder.spares o v.spares) same keeps (step.put.1 ∙ wide) in
      record {
        fed = fed_on gas input f.feeder v f.tx.put f.rx.taken t.put r.taken (one_more row) (λ l. l) was.fed channel feeds end.0 (ap (λ (s : Receiver). s.taken) rests);
        spares = omega (arith, kept, was.spares, ap (λ (l : List RowModel). length l) end.0, length-append f.tx.put (row ∷ []), ap (λ (s : Receiver). length s.taken) rests);
        held = rw rests was.held;
        room = rw rests was.room;
      }
