-- A turn of a worker brings a line to where the same turn brings its histories.
use Rattle.std.proofs.Common.{◌≡◌, ℕ, suc, ◌+◌, ◌≤◌, ◌<◌, inl, inr, true, false, List, [], ◌∷◌, ◌++◌, length, get_or, set, refl, ap, sym, ◌∙◌, subst, arith, length-append, append_assoc, length-set, Option}
use Rattle.std.proofs.lemmas.Bool.{cases_lt, le-ltb}
use Rattle.gas_geom.specs.Gas.{Rules, IsGas}
use Rattle.gas_stage.specs.Stages.{owed_by}
use Rattle.gas_rows.specs.Row.{RowModel}
use Rattle.gas_pipe_model.specs.Line.{Line, State, owed_on, grown, put_open, take_open, turn}
use Rattle.gas_pipe_model.specs.Inner.Line.{after_put, after_take, IsLine}
use Rattle.gas_pipe_model.specs.Pass.{RunInputModel, generations_of, line_of, rows_on}
use Rattle.gas_pipe_members.specs.Belt.{BeltModel}
use Rattle.gas_pipe_members.specs.Worker.{WorkerModel, SameWorker, MayHaveDone, WorkerTurned, owes}
use Rattle.gas_pipe_members.specs.Feeder.{FeederModel}
use Rattle.gas_pipe_replay.specs.Inner.LocalLine.{belt, IsAt, Shows}
use Rattle.gas_pipe_members.specs.declared.ends.Turned.{Turned}
use Rattle.gas_pipe_members.specs.declared.ends.Turned.TheVariants.{Took, Put, Idle, Done, Stray}
use Rattle.gas_pipe_model.proofs.Prefixes.{prefix_all}
use Rattle.gas_pipe_model.proofs.Turns.{Fits, grown_other, turn_put, turn_take, turn_idle, put_short}
use Rattle.gas_pipe_model.proofs.Generations.{pass_is_line, rows_high}
use Rattle.gas_pipe_members.proofs.Workers.{done_prefix}
use Rattle.gas_pipe_replay.proofs.PlainEnds.{PlainGets, PlainSends, got, sent}
use Rattle.gas_pipe_replay.proofs.Slots.{at_set, at_two}
use Rattle.gas_pipe_model.proofs.Opens.{put_shut, put_opened, take_opened, take_shut, grown_by, longer}
use Rattle.gas_pipe_model.proofs.Wide.{under_way_is_wide}

-- what a worker's turn between two belts of one thread did
abbrev pub TurnedBetween : Rules → WorkerModel → WorkerModel → BeltModel → BeltModel → BeltModel → BeltModel → Turned → Type 0
TurnedBetween gas w v from from2 to to2 r = WorkerTurned gas w v
    (λ row. from ≡ record from2 { rows = row ∷ from2.rows }) (from2 ≡ from) (0 < length from.rows)
    (λ row spare. PlainSends to row spare to2 × PlainGets from spare from2) (to2 ≡ to) (length to.rows < to.capacity) r

module _ (gas : Rules) (input : RunInputModel) (f : FeederModel) (ws : List WorkerModel) (bs : List BeltModel) (s : State) (k : ℕ) (w v : WorkerModel) (t q : BeltModel)
    (laws : IsGas gas) (fits : Fits (line_of gas input 0) s) (in_line : k < input.plan.threads) (sh : Shows gas input f ws bs s) (is : (d : WorkerModel) → get_or ws k d ≡ w) where
  abbrev line : Line
  line = line_of gas input 0

  is_line : IsLine line
  is_line = pass_is_line gas input sh.is_input 0

  was : IsAt gas input k w (s.taken k) (s.put (suc k))
  was = subst (λ (u : WorkerModel). IsAt gas input k u (s.taken k) (s.put (suc k))) (is w) (sh.done k w in_line)

  abbrev from : List (Option ℕ)
  from = generations_of input.first input.plan 0 (suc k)

  -- what the worker owes is what the line says
  owes_line : (u : WorkerModel) → u.stages.channel ≡ input.lattice.channel → u.stages.chirality ≡ input.chirality → (took : List RowModel) →
      owes gas u from took ≡ owed_by gas input.lattice.channel input.chirality from took
  owes_line u c r took =
      ap (λ x. owed_by gas x u.stages.chirality from took) c ∙ ap (λ x. owed_by gas input.lattice.channel x from took) r

  owes_this : owes gas w from (s.taken k) ≡ owed_on line s (suc k)
  owes_this = owes_line w was.channel was.chirality (s.taken k)

  low : k ≤ input.plan.threads
  low = omega arith

  holds_from : s.taken k ++ (belt bs k).rows ≡ s.put k
  holds_from = sh.holds k low

  holds_to : s.taken (suc k) ++ (belt bs (suc k)).rows ≡ s.put (suc k)
  holds_to = sh.holds (suc k) in_line

  cap_from : (belt bs k).capacity ≡ input.plan.capacity
  cap_from = sh.capacity k low

  cap_to : (belt bs (suc k)).capacity ≡ input.plan.capacity
  cap_to = sh.capacity (suc k) in_line

  length_to : length (s.put (suc k)) ≡ length (s.taken (suc k)) + length (belt bs (suc k)).rows
  length_to = sym (ap length holds_to) ∙ length-append (s.taken (suc k)) (belt bs (suc k)).rows

  -- the line after a change of the worker and its two belts
  shows_worker : (s2 : State) → ((j : ℕ) → (j ≡ suc k → ⊥) → s2.put j ≡ s.put j) → ((j : ℕ) → (j ≡ k → ⊥) → s2.taken j ≡ s.taken j) →
      v.stages.channel ≡ w.stages.channel → v.stages.chirality ≡ w.stages.chirality → MayHaveDone gas v from (s2.taken k) (s2.put (suc k)) →
      s2.taken k ++ t.rows ≡ s2.put k → s2.taken (suc k) ++ q.rows ≡ s2.put (suc k) → t.capacity ≡ input.plan.capacity → q.capacity ≡ input.plan.capacity →
      Shows gas input f (set ws k v) (set (set bs k t) (suc k) q) s2
  shows_worker s2 puts takens same_channel same_chirality done holds_t holds_q cap_t cap_q =
      let l1 : k < length ws = let a = sh.workers_are in omega arith in
      let l2 : suc k < length bs = let a = sh.belts_are in omega arith in
      let below : k < suc k = omega arith in
      let none : BeltModel = record { rows = []; capacity = 0 } in
      record {
        is_input = sh.is_input;
        workers_are = length-set ws k v ∙ sh.workers_are;
        belts_are = length-set (set bs k t) (suc k) q ∙ length-set bs k t ∙ sh.belts_are;
        channel = sh.channel;
        fed = rw (puts 0 (λ e. absurd (omega arith)), takens input.plan.threads (λ e. absurd (omega arith))) sh.fed;
        done = λ j d h. at_set ws k j v d l1 (λ u. IsAt gas input j u (s2.taken j) (s2.put (suc j)))
            (λ e. subst (λ i. IsAt gas input i v (s2.taken i) (s2.put (suc i))) (sym e)
            (record { channel = same_channel ∙ was.channel; chirality = same_chirality ∙ was.chirality; done = done }))
            (λ ne. rw (takens j ne, puts (suc j) (λ e. ne (omega arith))) (sh.done j d h));
        holds = λ j h. at_two bs k (suc k) j t q none below l2 (λ b. s2.taken j ++ b.rows ≡ s2.put j)
            (λ e. subst (λ i. s2.taken i ++ q.rows ≡ s2.put i) (sym e) holds_q)
            (λ e. subst (λ i. s2.taken i ++ t.rows ≡ s2.put i) (sym e) holds_t)
            (λ a b. rw (takens j b, puts j a) (sh.holds j h));
        capacity = λ j h. at_two bs k (suc k) j t q none below l2 (λ b. b.capacity ≡ input.plan.capacity) (λ e. cap_q) (λ e. cap_t) (λ a b. sh.capacity j h);
      }

  abbrev Shown : Type 0
  Shown = Shows gas input f (set ws k v) (set (set bs k t) (suc k) q) (turn line s (suc k))

  still_step : SameWorker w v → t ≡ belt bs k → q ≡ belt bs (suc k) → MayHaveDone gas v from (s.taken k) (s.put (suc k)) →
      put_open line s (suc k) ≡ false → take_open line s k ≡ false → Shown
  still_step same same_t same_q done shut no_take =
      let e : turn line s (suc k) ≡ s = (turn_idle line s (suc k) (le-ltb input.plan.threads (suc k) (omega arith)) shut no_take).1 in
      subst (λ u. Shows gas input f (set ws k v) (set (set bs k t) (suc k) q) u) (sym e)
      (shows_worker s (λ j ne. refl) (λ j ne. refl) same.channel same.chirality done
      (rw same_t holds_from)
      (rw same_q holds_to)
      (ap (λ (b : BeltModel). b.capacity) same_t ∙ cap_from)
      (ap (λ (b : BeltModel). b.capacity) same_q ∙ cap_to))

  worker_step : (r : Turned) → SameWorker w v → TurnedBetween gas w v (belt bs k) t (belt bs (suc k)) q r → Shown
  worker_step Took same c =
      let row : RowModel = c.0 in
      let holds_k : s.taken k ++ row ∷ t.rows ≡ s.put k = rw (ap (λ (b : BeltModel). b.rows) c.1) at holds_from in
      let n : length (s.put (suc k)) ≡ length (owed_on line s (suc k)) = ap length ((c.4 from (s.taken k) (s.put (suc k)) was.done).1 ∙ owes_this) in
      let shut : put_open line s (suc k) ≡ false = put_shut line s (suc k) (λ more. absurd (omega arith)) in
      let opens : take_open line s k ≡ true = take_opened line s k (longer (s.taken k) row t.rows (s.put k) holds_k) (inr n) in
      let e : turn line s (suc k) ≡ after_take s k = (turn_take line s (suc k) (le-ltb input.plan.threads (suc k) (omega arith)) shut opens).1 in
      let now : grown s.taken k (s.put k) k ≡ s.taken k ++ row ∷ [] = grown_by s.taken k row t.rows (s.put k) holds_k in
      let above : grown s.taken k (s.put k) (suc k) ≡ s.taken (suc k) = grown_other s.taken k (s.put k) (suc k) (λ z. absurd (omega arith)) in
      subst (λ u. Shows gas input f (set ws k v) (set (set bs k t) (suc k) q) u) (sym e)
      (shows_worker (after_take s k) (λ j ne. refl) (λ j ne. grown_other s.taken k (s.put k) j ne) same.channel same.chirality
      (rw now (c.3 from (s.taken k) (s.put (suc k)) was.done))
      (rw now (append_assoc (s.taken k) (row ∷ []) t.rows ∙ holds_k))
      (rw (above, c.2) holds_to)
      (sym (ap (λ (b : BeltModel). b.capacity) c.1) ∙ cap_from)
      (ap (λ (b : BeltModel). b.capacity) c.2 ∙ cap_to))
  worker_step Put same c =
      let row : RowModel = c.0 in
      let step = sent (belt bs (suc k)) row c.3 q c.4.0 in
      let rests = got (belt bs k) c.3 t c.4.1 in
      let done : MayHaveDone gas v from (s.taken k) (s.put (suc k) ++ row ∷ []) = c.1 from (s.taken k) (s.put (suc k)) was.done in
      let pre = done_prefix gas v from (s.taken k) (s.put (suc k) ++ row ∷ []) done in
      let owed_is : owes gas v from (s.taken k) ≡ owed_on line s (suc k) =
      owes_line v (same.channel ∙ was.channel) (same.chirality ∙ was.chirality) (s.taken k) in
      let comes : s.put (suc k) ++ row ∷ pre.0 ≡ owed_on line s (suc k) = sym (append_assoc (s.put (suc k)) (row ∷ []) pre.0) ∙ pre.1 ∙ owed_is in
      let room : length (belt bs (suc k)).rows < (belt bs (suc k)).capacity = step.0 in
      let opens : put_open line s (suc k) ≡ true =
      put_opened line s (suc k) (longer (s.put (suc k)) row pre.0 (owed_on line s (suc k)) comes) (omega (arith, length_to, cap_to, room)) in
      let e : turn line s (suc k) ≡ after_put line s (suc k) = (turn_put line s (suc k) (le-ltb input.plan.threads (suc k) (omega arith)) opens).1 in
      let now : grown s.put (suc k) (owed_on line s (suc k)) (suc k) ≡ s.put (suc k) ++ row ∷ [] = grown_by s.put (suc k) row pre.0 (owed_on line s (suc k)) comes in
      let below : grown s.put (suc k) (owed_on line s (suc k)) k ≡ s.put k = grown_other s.put (suc k) (owed_on line s (suc k)) k (λ z. absurd (omega arith)) in
      let rows : q.rows ≡ (belt bs (suc k)).rows ++ row ∷ [] = ap (λ (b : BeltModel). b.rows) step.1 in
      subst (λ u. Shows gas input f (set ws k v) (set (set bs k t) (suc k) q) u) (sym e)
      (shows_worker (after_put line s (suc k)) (λ j ne. grown_other s.put (suc k) (owed_on line s (suc k)) j ne) (λ j ne. refl) same.channel same.chirality
      (rw now done)
      (rw (below, rests) holds_from)
      (rw (now, rows) (sym (append_assoc (s.taken (suc k)) (belt bs (suc k)).rows (row ∷ [])) ∙ ap (λ u. u ++ row ∷ []) holds_to))
      (ap (λ (b : BeltModel). b.capacity) rests ∙ cap_from)
      (ap (λ (b : BeltModel). b.capacity) step.1 ∙ cap_to))
  worker_step Idle same c =
      let when = c.3 from (s.taken k) (s.put (suc k)) was.done in
      let nk : length (s.put k) ≡ length (s.taken k) + length (belt bs k).rows = sym (ap length holds_from) ∙ length-append (s.taken k) (belt bs k).rows in
      let m : length (owes gas w from (s.taken k)) ≡ length (owed_on line s (suc k)) = ap length owes_this in
      still_step same c.0 c.1 (c.2 from (s.taken k) (s.put (suc k)) was.done)
      (put_shut line s (suc k) (λ more. elim (cases_lt (length (belt bs (suc k)).rows) (belt bs (suc k)).capacity) [
        | inl room ↦ absurd (when.0 (omega (arith, more, m)) room)
        | inr no_room ↦ omega (arith, no_room, length_to, cap_to)
      ]))
      (take_shut line s k (λ more. (
        (λ e. absurd (omega arith)),
        (λ same. when.1 (prefix_all _ _ (fits.put (suc k) in_line) same ∙ sym owes_this) (omega (arith, more, nk))),
      )))
  worker_step Done same c =
      let all = c.4 from (s.taken k) (s.put (suc k)) was.done in
      let m : length (s.put (suc k)) ≡ length (owed_on line s (suc k)) = ap length (all.1 ∙ owes_this) in
      let high : w.stages.channel.height ≡ length (rows_on gas input 0 0) = ap (λ c. c.height) was.channel ∙ sym (rows_high gas input sh.is_input 0 0) in
      let few = put_short line is_line s fits k low in
      still_step same c.0 c.1 (c.2 from (s.taken k) (s.put (suc k)) was.done)
      (put_shut line s (suc k) (λ more. absurd (omega (arith, more, m))))
      (take_shut line s k (λ more. absurd (omega (arith, more, few, high, all.0))))
  worker_step Stray same c =
      let came = c.3 was.done.no_stray in
      let holds_k : s.taken k ++ came.0 ∷ t.rows ≡ s.put k = rw (ap (λ (b : BeltModel). b.rows) came.1) at holds_from in
      absurd (came.3 (under_way_is_wide gas input laws sh.is_input 0 s fits k low came.0 t.rows holds_k ∙ sym (ap (λ c. c.width) was.channel)))

  pub worker_step_at : (r : Turned) (x y : BeltModel) → x ≡ belt bs k → y ≡ belt bs (suc k) → SameWorker w v → TurnedBetween gas w v x t y q r → Shown
  worker_step_at r x y ex ey same c = worker_step r same (rw (← ex, ← ey) c)
