-- How the workers of a run are linked, and how the ends of their belts meet, one belt after another.
use Rattle.std.proofs.Common.{◌≡◌, ℕ, suc, ◌+◌, ◌*◌, ◌<◌, ◌++◌, Option, Some, None, IfSome, List, [], ◌∷◌, length, refl, ap, sym, subst, ◌∙◌, arith}
use Rattle.std.specs.Prelude.{slice_index_or}
use Rattle.std.specs.List.{remove}
use Rattle.std.specs.Option.{option_to_list}
use Rattle.std.proofs.lemmas.List.FromFn.{map-range_with_len_more, length-map-range_with_len}
use Rattle.std.specs.Int.{div_ceil}
use Rattle.gas_geom.specs.Gas.{Rules}
use Rattle.gas_rows.specs.Row.{RowModel}
use Rattle.gas_belt.specs.Belt.{Belt, Sender, CarriedModel}
use Rattle.gas_pipe_model.specs.Pass.{RunInputModel, rows_on}
use Rattle.gas_pipe_model.specs.Inner.Circle.{owes_in}
use Rattle.gas_pipe_model.proofs.Circle.{on_high, on_next, on_first}
use Rattle.gas_pipe_model.proofs.PlanCircle.{is_circle}
use Rattle.gas_pipe.specs.Inner.Worker.{LineWorkerModel, EndedModel, Job, job_in, HasCome, HasFinished, HasEnded}
use Rattle.gas_pipe.specs.Inner.Feeder.{LineFeederModel, belts_of, HasFed}
use Rattle.gas_pipe.specs.Inner.Links.{Linked, last_belt, AllHaveCome, IsLinked, carrying, rows_on_belt, belts_before, HaveMet}
use Rattle.gas_pipe.proofs.Settled.{long}

-- one worker more
pub last_belt_snoc : (from : Belt) (js : List Job) (j : Job) → last_belt from (js ++ j ∷ []) ≡ j.to
last_belt_snoc from [] j = refl
last_belt_snoc from (i ∷ js) j = last_belt_snoc i.to js j

pub linked_snoc : (input : RunInputModel) (g k : ℕ) (from : Belt) (js : List Job) (j : Job) → g + length js ≡ k → Linked input g from js → j ≡ job_in input k (last_belt from js) j.to →
    Linked input g from (js ++ j ∷ [])
linked_snoc input g k from [] j at l next =
    let e : k ≡ g = omega (arith, at) in
    (subst (λ (n : ℕ). j ≡ job_in input n from j.to) e next, tt)
linked_snoc input g k from (i ∷ js) j at l next =
    let e : suc g + length js ≡ k = omega (arith, at) in
    (l.0, linked_snoc input (suc g) k i.to js j e l.1 next)

pub come_snoc : (gas : Rules) (ws : List LineWorkerModel) (w : LineWorkerModel) → AllHaveCome gas ws → HasCome gas w → AllHaveCome gas (ws ++ w ∷ [])
come_snoc gas [] w all one = (one, tt)
come_snoc gas (v ∷ ws) w all one = (all.0, come_snoc gas ws w all.1 one)

-- the first of them apart
pub come_own : (gas : Rules) (o : Option LineWorkerModel) (ws : List LineWorkerModel) → AllHaveCome gas (option_to_list o ++ ws) → IfSome o (λ w. HasCome gas w) × AllHaveCome gas ws
come_own gas None ws all = (tt, all)
come_own gas (Some w) ws all = all

pub removed : (ws : List LineWorkerModel) (w : LineWorkerModel) → 0 < length ws → w ≡ slice_index_or ws 0 w → w ∷ remove ws 0 ≡ ws
removed [] w some is = absurd (omega (arith, some))
removed (v ∷ ws) w some is = ap (λ (u : LineWorkerModel). u ∷ ws) is

-- one belt more
on_more : (gas : Rules) (input : RunInputModel) (b : List RowModel) (k : ℕ) → belts_before gas input b (suc k) ≡ belts_before gas input b k ++ carrying (rows_on_belt gas input b k) ∷ []
on_more gas input b k =
    ap (belts_before gas input b) (let e : suc k ≡ k + 1 = omega arith in e)
    ∙ map-range_with_len_more (λ i. carrying (rows_on_belt gas input b i)) 0 k k (let e : 0 + k ≡ k = omega arith in e)

-- and one belt more after those that have met
grown : (gas : Rules) (input : RunInputModel) (b : List RowModel) (now : List CarriedModel) (k : ℕ) (put taken : List RowModel) → now ≡ belts_before gas input b k →
    put ≡ rows_on_belt gas input b k → taken ≡ put → now ++ record { put = put; taken = taken } ∷ [] ≡ belts_before gas input b (suc k)
grown gas input b now k put taken was put_is same =
    ap (λ (l : List CarriedModel). l ++ record { put = put; taken = taken } ∷ []) was
    ∙ ap (λ (l : List RowModel). belts_before gas input b k ++ record { put = l; taken = taken } ∷ []) put_is
    ∙ ap (λ (l : List RowModel). belts_before gas input b k ++ record { put = rows_on_belt gas input b k; taken = l } ∷ []) (same ∙ put_is)
    ∙ sym (on_more gas input b k)

module _ {gas : Rules} {input : RunInputModel} {f : LineFeederModel} where
  -- as many rows were put on the belt that is reached as on the first
  pub met_long : {jobs : List Job} {s : Sender} {now : List CarriedModel} → HaveMet gas input f jobs s now →
      length s.put ≡ div_ceil input.plan.generations input.plan.stages * input.lattice.channel.height
  met_long met =
      ap length met.put_is
      ∙ on_high input.lattice.channel.height input.plan.threads (owes_in gas input) (λ q. q) (rows_on gas input) (is_circle gas input met.is_input (λ q. q) (λ m q. refl) (λ n. refl))
      (div_ceil input.plan.generations input.plan.stages) f.tx.put met.long met.k

  -- the belts that have met number as many as the workers before it
  pub met_count : {jobs : List Job} {s : Sender} {now : List CarriedModel} → HaveMet gas input f jobs s now → length now + length jobs ≡ input.plan.threads
  met_count {now = now} met =
      let made : length now ≡ met.k = ap length met.belts ∙ length-map-range_with_len (λ i. carrying (rows_on_belt gas input f.tx.put i)) 0 met.k in
      omega (arith, made, met.count)

  -- at the last belt
  pub met_last : {s : Sender} {now : List CarriedModel} {taken : List RowModel} → HaveMet gas input f [] s now → taken ≡ s.put →
      (s.put ≡ rows_on_belt gas input f.tx.put input.plan.threads) × (now ++ record { put = s.put; taken = taken } ∷ [] ≡ belts_before gas input f.tx.put (input.plan.threads + 1))
  met_last {s = s} {now = now} {taken = taken} met same =
      let last : met.k ≡ input.plan.threads = omega (arith, met.count) in
      let after : suc met.k ≡ input.plan.threads + 1 = omega (arith, last) in (
        met.put_is ∙ ap (rows_on_belt gas input f.tx.put) last,
        grown gas input f.tx.put now met.k s.put taken met.belts met.put_is same ∙ ap (belts_before gas input f.tx.put) after,
      )

  -- the belt before the worker of the next job has met, and the worker has ended
  module _ {j : Job} {js : List Job} {s : Sender} {now : List CarriedModel} {e : EndedModel} (met : HaveMet gas input f (j ∷ js) s now) (ran : HasEnded gas j e) where
    job : HasFinished gas (job_in input met.k s.belt j.to) e.rx.taken e.spent.put
    job = subst (λ (i : Job). HasFinished gas i e.rx.taken e.spent.put) met.leads.0 ran.finished

    pub meets : length s.put ≡ length e.rx.taken
    meets = met_long met ∙ sym job.whole

    pub one_belt : s.belt ≡ e.rx.belt
    one_belt = sym (ran.from ∙ ap (λ (i : Job). i.from) met.leads.0)

    pub goes : {now2 : List CarriedModel} → e.rx.taken ≡ s.put → now2 ≡ now ++ record { put = s.put; taken = e.rx.taken } ∷ [] → HaveMet gas input f js e.spent now2
    goes same is = record {
      is_input = met.is_input;
      long = met.long;
      k = suc met.k;
      put_is =
          job.owes_is ∙ rw (same ∙ met.put_is) refl
          ∙ sym (on_next input.lattice.channel.height (owes_in gas input) (div_ceil input.plan.generations input.plan.stages) f.tx.put met.k);
      belts = is ∙ grown gas input f.tx.put now met.k s.put e.rx.taken met.belts met.put_is same;
      leads = subst (λ (c : Belt). Linked input (suc met.k) c js) (sym ran.to) met.leads.1;
      count = omega (arith, met.count);
      end_is = ap (λ (c : Belt). last_belt c js) ran.to ∙ met.end_is;
    }

-- the feeder is over, and s is the closed end of belt 0
pub met_first : {gas : Rules} {input : RunInputModel} {f inside : LineFeederModel} {jobs : List Job} {s : Sender} {now : List CarriedModel} → inside ≡ f → IsLinked input (belts_of f) jobs →
    HasFed gas input f → f.feeder.to_take ≡ 0 → s ≡ record inside.tx { spare = None } → now ≡ [] → HaveMet gas input f jobs s now
met_first {gas = gas} {input = input} {f = f} {jobs = jobs} {s = s} is line fed over closed none = record {
  is_input = fed.fed.is_input;
  long = long input f.feeder f.tx.put f.rx.taken fed.fed.channel over fed.fed.fed;
  k = 0;
  put_is = put ∙ sym (on_first input.lattice.channel.height (owes_in gas input) (div_ceil input.plan.generations input.plan.stages) f.tx.put);
  belts = none;
  leads = subst (λ (c : Belt). Linked input 0 c jobs) (sym belt) line.leads;
  count = omega (arith, line.count);
  end_is = ap (λ (c : Belt). last_belt c jobs) belt ∙ line.end;
}
  where
    belt : s.belt ≡ f.tx.belt
    belt = ap (λ (t : Sender). t.belt) closed ∙ ap (λ (l : LineFeederModel). l.tx.belt) is

    put : s.put ≡ f.tx.put
    put = ap (λ (t : Sender). t.put) closed ∙ ap (λ (l : LineFeederModel). l.tx.put) is
