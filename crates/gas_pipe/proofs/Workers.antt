-- The steps of a worker of a run, and what it has put in the end.
use Rattle.std.proofs.Common.{◌≡◌, ℕ, suc, ◌+◌, ◌*◌, ◌<◌, ◌≤◌, Option, None, Some, List, [], ◌∷◌, ◌++◌, ap, sym, refl, ◌∙◌, length, length-append, append_assoc, append-nil, arith}
use Rattle.std.specs.Int.{div_ceil}
use Rattle.std.specs.Option.{option_to_list}
use Rattle.std.proofs.Math.Nat.{suc-mul, zero-mul}
use Rattle.gas_geom.specs.Gas.{Rules}
use Rattle.gas_geom.specs.Channel.{ChannelModel}
use Rattle.gas_rows.specs.Row.{RowModel}
use Rattle.gas_belt.specs.Belt.{Sender, Receiver}
use Rattle.gas_stage.specs.Stages.{owed_by}
use Rattle.gas_stage.proofs.OwedBy.{owed_by-all}
use Rattle.gas_pipe_members.specs.Ends.{MayGet, Sends}
use Rattle.gas_pipe_members.specs.Worker.{WorkerModel, SameWorker, IsClosed, MayHaveDone, Does}
use Rattle.gas_pipe_members.proofs.Workers.{closed_all, gave_few, gave_most}
use Rattle.gas_pipe_model.proofs.Circle.{owed_pass, owed_none, owed_high}
use Rattle.gas_pipe.specs.Inner.Worker.{LineWorkerModel, Job, job_of, does_in, owes_until, HasSpares, HasCome, HasFinished}
use Rattle.gas_pipe.proofs.Ends.{one_more, puts, lends, takes, gets, got_spare, sent}

-- the worker v between the ends r and t, in the place of that of w
abbrev pub with_worker : LineWorkerModel → WorkerModel → Receiver → Sender → LineWorkerModel
with_worker w v r t = record w { worker = v; rx = r; tx = t }

-- how many rows it took and put
module _ (gas : Rules) (w : LineWorkerModel) (took_before took gave : List RowModel) (whole : length took_before ≡ w.pass * w.worker.stages.channel.height)
    (done : MayHaveDone gas w.worker (does_in (job_of w) w.pass) took gave) (came : w.rx.taken ≡ took_before ++ took)
    (went : w.tx.put ≡ owes_until gas (job_of w) w.pass took_before ++ gave) where
  taken_long : length w.rx.taken ≡ w.pass * w.worker.stages.channel.height + length took
  taken_long = ap (λ (l : List RowModel). length l) came ∙ length-append took_before took ∙ omega (arith, whole)

  put_long : length w.tx.put ≡ w.pass * w.worker.stages.channel.height + length gave
  put_long =
      let c = w.worker.stages.channel in
      let owe : ℕ → List RowModel → List RowModel = λ i q. owed_by gas c w.worker.stages.chirality (does_in (job_of w) i) q in
      let until : length (owes_until gas (job_of w) w.pass took_before) ≡ w.pass * c.height =
      owed_high c.height owe (λ i q. owed_by-all gas c w.worker.stages.chirality (does_in (job_of w) i) q) w.pass took_before (omega (arith, whole)) in
      ap (λ (l : List RowModel). length l) went ∙ length-append (owes_until gas (job_of w) w.pass took_before) gave ∙ omega (arith, until)

  put_few : length w.tx.put ≤ length w.rx.taken
  put_few = omega (arith, taken_long, put_long, gave_few gas w.worker (does_in (job_of w) w.pass) took gave done)

  put_most : length w.rx.taken ≤ length w.tx.put + length (option_to_list w.worker.waiting) + length w.worker.stages.stages
  put_most = omega (arith, taken_long, put_long, gave_most gas w.worker (does_in (job_of w) w.pass) took gave done)

-- unless a row waits to be put, it has a spare row
pub never_without : (gas : Rules) (w : LineWorkerModel) → HasCome gas w → w.worker.waiting ≡ None → 0 < w.rx.held
never_without gas w was none =
    let most = put_most gas w was.took_before was.took was.gave was.whole was.done was.came was.went in
    omega (arith, was.spares.count, most, ap (λ (o : Option RowModel). length (option_to_list o)) none)

one_waits : (o : Option RowModel) → length (option_to_list o) ≤ 1
one_waits None = omega arith
one_waits (Some row) = omega arith

-- a step of its worker between its ends
module _ {gas : Rules} {w : LineWorkerModel} (was : HasCome gas w) (v : WorkerModel) (r : Receiver) (t : Sender) (same : SameWorker w.worker v) where
  same_job : r.belt ≡ w.rx.belt → t.belt ≡ w.tx.belt → job_of (with_worker w v r t) ≡ job_of w
  same_job from to = rw (same.channel, same.chirality, from, to) refl

  -- by which the lists of its ends become f and k of what they were
  steps : (f k : List RowModel → List RowModel) → ((a l : List RowModel) → f (a ++ l) ≡ a ++ f l) → ((a l : List RowModel) → k (a ++ l) ≡ a ++ k l) →
      r.belt ≡ w.rx.belt → t.belt ≡ w.tx.belt → Does gas w.worker f k v → r.taken ≡ f w.rx.taken → t.put ≡ k w.tx.put →
      (length t.put ≤ length r.taken → length r.taken ≤ length t.put + length (option_to_list v.waiting) + length v.stages.stages → HasSpares (with_worker w v r t)) →
      HasCome gas (with_worker w v r t)
  steps f k f_after k_after from to does taken put spares =
      let whole : length was.took_before ≡ w.pass * v.stages.channel.height = was.whole ∙ ap (λ (c : ChannelModel). w.pass * c.height) (sym same.channel) in
      let done = does (does_in (job_of w) w.pass) was.took was.gave was.done in
      let came : r.taken ≡ was.took_before ++ f was.took = taken ∙ ap f was.came ∙ f_after was.took_before was.took in
      let went : t.put ≡ owes_until gas (job_of (with_worker w v r t)) w.pass was.took_before ++ k was.gave =
      put ∙ ap k was.went
      ∙ k_after (owes_until gas (job_of w) w.pass was.took_before) was.gave
      ∙ ap (λ (j : Job). owes_until gas j w.pass was.took_before ++ k was.gave) (sym (same_job from to)) in
      record {
        took_before = was.took_before;
        took = f was.took;
        gave = k was.gave;
        whole = whole;
        done = done;
        came = came;
        went = went;
        spares =
            spares (put_few gas (with_worker w v r t) was.took_before (f was.took) (k was.gave) whole done came went)
            (put_most gas (with_worker w v r t) was.took_before (f was.took) (k was.gave) whole done came went);
      }

  -- it took a row, put a row, or did neither
  pub came_took : (row : RowModel) → takes w.rx row r → t ≡ w.tx → Does gas w.worker (one_more row) (λ l. l) v → HasCome gas (with_worker w v r t)
  came_took row took rests does =
      steps (one_more row) (λ l. l) (λ a l. append_assoc a l (row ∷ [])) (λ a l. refl) (ap (λ (s : Receiver). s.belt) took.0) (ap (λ (s : Sender). s.belt) rests) does
      (ap (λ (s : Receiver). s.taken) took.0) (ap (λ (s : Sender). s.put) rests)
      (λ few most. record {
        count =
            omega (
              arith,
              most,
              one_waits v.waiting,
              was.spares.count,
              same.count,
              ap (λ (s : Receiver). s.held) took.0,
              ap (λ (s : Receiver). length s.taken) took.0,
              length-append w.rx.taken (row ∷ []),
              ap (λ (s : Sender). length s.put) rests,
            );
        room = ap (λ (s : Receiver). s.most) took.0 ∙ omega (arith, was.spares.room, same.count);
      })

  pub came_put : (row : RowModel) (spare : Option RowModel) → Sends puts lends w.tx row spare t → MayGet gets w.rx spare r → length row ≡ w.rx.belt.width →
      Does gas w.worker (λ l. l) (one_more row) v → HasCome gas (with_worker w v r t)
  came_put row spare sends gets wide does =
      let put = sent w.tx t row spare sends in
      let got = got_spare w.rx r w.tx t row spare sends gets in
      steps (λ l. l) (one_more row) (λ a l. refl) (λ a l. append_assoc a l (row ∷ [])) (ap (λ (s : Receiver). s.belt) got.0) put.1 does
      (ap (λ (s : Receiver). s.taken) got.0) put.0
      (λ few most.
      let longer : length t.put ≡ length w.tx.put + 1 = ap (λ (l : List RowModel). length l) put.0 ∙ length-append w.tx.put (row ∷ []) in
      let taken : length r.taken ≡ length w.rx.taken = ap (λ (s : Receiver). length s.taken) got.0 in
      let held : r.held ≡ w.rx.held + 1 = omega (arith, got.1 wide, few, longer, taken, was.spares.count, was.spares.room) in
      record {
        count = omega (arith, held, taken, longer, was.spares.count, same.count);
        room = ap (λ (s : Receiver). s.most) got.0 ∙ omega (arith, was.spares.room, same.count);
      })

  pub came_rests : r ≡ w.rx → t ≡ w.tx → Does gas w.worker (λ l. l) (λ l. l) v → HasCome gas (with_worker w v r t)
  came_rests still rests does =
      steps (λ l. l) (λ l. l) (λ a l. refl) (λ a l. refl) (ap (λ (s : Receiver). s.belt) still) (ap (λ (s : Sender). s.belt) rests) does
      (ap (λ (s : Receiver). s.taken) still) (ap (λ (s : Sender). s.put) rests)
      (λ few most. record { count = rw (still, rests, same.count) was.spares.count; room = rw (still, same.count) was.spares.room })

-- its open pass is closed
module _ {gas : Rules} {w : LineWorkerModel} (was : HasCome gas w) (closed : IsClosed w.worker) where
  high : length was.took ≡ w.worker.stages.channel.height
  high = was.done.took_all closed.stages

  whole_pass : length w.rx.taken ≡ (w.pass + 1) * w.worker.stages.channel.height
  whole_pass =
      let on : suc w.pass ≡ w.pass + 1 = omega arith in
      ap length was.came ∙ length-append was.took_before was.took ∙ omega (arith, was.whole, high, suc-mul w.pass w.worker.stages.channel.height, on)

  owes_pass : w.tx.put ≡ owes_until gas (job_of w) (w.pass + 1) w.rx.taken
  owes_pass =
      let on : suc w.pass ≡ w.pass + 1 = omega arith in
      let c = w.worker.stages.channel in
      let owe : ℕ → List RowModel → List RowModel = λ i q. owed_by gas c w.worker.stages.chirality (does_in (job_of w) i) q in
      was.went
      ∙ ap (λ (l : List RowModel). owes_until gas (job_of w) w.pass was.took_before ++ l) (closed_all gas w.worker _ was.took was.gave was.done closed)
      ∙ sym (owed_pass c.height owe w.pass was.took_before was.took was.whole high)
      ∙ ap (λ (l : List RowModel). owes_until gas (job_of w) (suc w.pass) l) (sym was.came)
      ∙ ap (λ (n : ℕ). owes_until gas (job_of w) n w.rx.taken) on

  -- the next one is open
  pub opens : (v : WorkerModel) → SameWorker w.worker v → MayHaveDone gas v (does_in (job_of w) (w.pass + 1)) [] [] →
      HasCome gas (record w { pass = w.pass + 1; worker = v })
  opens v same begun = record {
    took_before = w.rx.taken;
    took = [];
    gave = [];
    whole = whole_pass ∙ ap (λ (c : ChannelModel). (w.pass + 1) * c.height) (sym same.channel);
    done = begun;
    came = sym (append-nil w.rx.taken);
    went =
        owes_pass ∙ ap (λ (j : Job). owes_until gas j (w.pass + 1) w.rx.taken) (sym (same_job was v w.rx w.tx same refl refl))
        ∙ sym (append-nil (owes_until gas (job_of (with_worker w v w.rx w.tx)) (w.pass + 1) w.rx.taken));
    spares = record { count = rw same.count was.spares.count; room = rw same.count was.spares.room };
  }

  -- it was the last
  pub finishes : w.pass + 1 ≡ div_ceil w.plan.generations w.plan.stages → HasFinished gas (job_of w) w.rx.taken w.tx.put
  finishes last = record {
    whole = whole_pass ∙ ap (λ (n : ℕ). n * w.worker.stages.channel.height) last;
    owes_is = owes_pass ∙ ap (λ (n : ℕ). owes_until gas (job_of w) n w.rx.taken) last;
  }

-- at the start
pub begins : (gas : Rules) (w : LineWorkerModel) → w.pass ≡ 0 → MayHaveDone gas w.worker (does_in (job_of w) w.pass) [] [] → w.rx.taken ≡ [] → w.tx.put ≡ [] → HasSpares w →
    HasCome gas w
begins gas w first begun nothing_taken nothing_put spares = record {
  took_before = [];
  took = [];
  gave = [];
  whole = sym (ap (λ (n : ℕ). n * w.worker.stages.channel.height) first ∙ zero-mul w.worker.stages.channel.height);
  done = begun;
  came = nothing_taken;
  went =
      nothing_put
      ∙ sym (append-nil (owes_until gas (job_of w) w.pass [])
      ∙ ap (λ (n : ℕ). owes_until gas (job_of w) n []) first
      ∙ owed_none w.worker.stages.channel.height (λ i. owed_by gas w.worker.stages.channel w.worker.stages.chirality (does_in (job_of w) i)) []);
  spares = spares;
}
