-- A turn of the feeder brings a line to where the same turn brings its histories.
use Rattle.std.proofs.Common.{◌≡◌, ℕ, zero, suc, ◌+◌, ◌≤◌, ◌<◌, inl, inr, true, false, List, [], ◌∷◌, ◌++◌, length, set, refl, ap, sym, ◌∙◌, subst, arith, length-append, append_assoc, length-set, Option}
use Rattle.std.proofs.lemmas.Bool.{cases_lt, le-ltb}
use Rattle.gas_geom.specs.Gas.{Rules, IsGas}
use Rattle.gas_rows.specs.Row.{RowModel}
use Rattle.gas_pipe_model.specs.Line.{Line, State, grown, put_open, take_open, turn}
use Rattle.gas_pipe_model.specs.Inner.Line.{after_put, after_take, IsLine}
use Rattle.gas_pipe_model.specs.Pass.{RunInputModel, line_of, rows_on}
use Rattle.gas_pipe_members.specs.Belt.{BeltModel}
use Rattle.gas_pipe_members.specs.Worker.{WorkerModel}
use Rattle.gas_pipe_members.specs.Feeder.{FeederModel, MayHaveFed, Keeps, Gives, FeederTurned}
use Rattle.gas_pipe_members.specs.Inner.Queue.{emptied}
use Rattle.gas_pipe_replay.specs.Inner.LocalLine.{belt, Shows}
use Rattle.gas_pipe_members.specs.declared.ends.Turned.{Turned}
use Rattle.gas_pipe_members.specs.declared.ends.Turned.TheVariants.{Took, Put, Idle, Done, Stray}
use Rattle.gas_pipe_model.proofs.Prefixes.{prefix_length}
use Rattle.gas_pipe_model.proofs.Turns.{Fits, grown_other, turn_put, turn_take, turn_idle, put_short}
use Rattle.gas_pipe_model.proofs.Generations.{pass_is_line, rows_high}
use Rattle.gas_pipe_members.proofs.Feeds.{one_pass_prefix}
use Rattle.gas_pipe_replay.proofs.PlainEnds.{PlainSends, PlainTakes, sent, taken}
use Rattle.gas_pipe_replay.proofs.Slots.{at_two}
use Rattle.gas_pipe_model.proofs.Opens.{put_shut, put_opened, take_opened, take_shut, grown_by, longer}
use Rattle.gas_pipe_model.proofs.Wide.{under_way_is_wide}

-- what a feeder's turn between two belts of one thread did
abbrev pub TurnedBetween : FeederModel → FeederModel → BeltModel → BeltModel → BeltModel → BeltModel → Turned → Type 0
TurnedBetween f v to to2 from from2 r = FeederTurned f v
    (λ row. (spare : Option RowModel) × PlainSends to row spare to2 × Keeps f.channel.width f.spares spare v.spares) (to2 ≡ to) (length to.rows < to.capacity)
    (λ row. (spare : Option RowModel) × PlainTakes from row spare from2 × Gives f.channel.width f.spares spare v.spares) (from2 ≡ from) (0 < length from.rows) r

-- no belt has more rows put on it than the first
put_below : (l : Line) → IsLine l → (s : State) → Fits l s → (k : ℕ) → k ≤ l.workers → length (s.put k) ≤ length (s.put 0)
put_below l is s f zero h = omega arith
put_below l is s f (suc k) h =
    omega (arith, put_below l is s f k (omega arith), prefix_length _ _ (f.put (suc k) h), is.no_more (suc k) (s.taken k), prefix_length _ _ (f.taken k))

module _ (gas : Rules) (input : RunInputModel) (f v : FeederModel) (ws : List WorkerModel) (bs : List BeltModel) (s : State) (q t : BeltModel)
    (laws : IsGas gas) (fits : Fits (line_of gas input 0) s) (sh : Shows gas input f ws bs s) where
  abbrev line : Line
  line = line_of gas input 0

  is_line : IsLine line
  is_line = pass_is_line gas input sh.is_input 0

  abbrev last : ℕ
  last = input.plan.threads

  holds_to : s.taken 0 ++ (belt bs 0).rows ≡ s.put 0
  holds_to = sh.holds 0 (omega arith)

  holds_from : s.taken last ++ (belt bs last).rows ≡ s.put last
  holds_from = sh.holds last (omega arith)

  cap_to : (belt bs 0).capacity ≡ input.plan.capacity
  cap_to = sh.capacity 0 (omega arith)

  cap_from : (belt bs last).capacity ≡ input.plan.capacity
  cap_from = sh.capacity last (omega arith)

  length_to : length (s.put 0) ≡ length (s.taken 0) + length (belt bs 0).rows
  length_to = sym (ap length holds_to) ∙ length-append (s.taken 0) (belt bs 0).rows

  length_from : length (s.put last) ≡ length (s.taken last) + length (belt bs last).rows
  length_from = sym (ap length holds_from) ∙ length-append (s.taken last) (belt bs last).rows

  high : length (rows_on gas input 0 0) ≡ f.channel.height
  high = rows_high gas input sh.is_input 0 0 ∙ ap (λ c. c.height) (sym sh.channel)

  -- the line after a change of the feeder and its two belts
  shows_feeder : (s2 : State) → ((j : ℕ) → (j ≡ 0 → ⊥) → s2.put j ≡ s.put j) → ((j : ℕ) → (j ≡ last → ⊥) → s2.taken j ≡ s.taken j) →
      v.channel ≡ f.channel → MayHaveFed v 1 (rows_on gas input 0 0) (s2.put 0) (s2.taken last) →
      s2.taken 0 ++ q.rows ≡ s2.put 0 → s2.taken last ++ t.rows ≡ s2.put last → q.capacity ≡ input.plan.capacity → t.capacity ≡ input.plan.capacity →
      Shows gas input v ws (set (set bs 0 q) last t) s2
  shows_feeder s2 puts takens same_channel fed holds_q holds_t cap_q cap_t =
      let low : 0 < last = sh.is_input.workers in
      let top : last < length bs = let a = sh.belts_are in omega arith in
      let none : BeltModel = record { rows = []; capacity = 0 } in
      record {
        is_input = sh.is_input;
        workers_are = sh.workers_are;
        belts_are = length-set (set bs 0 q) last t ∙ length-set bs 0 q ∙ sh.belts_are;
        channel = same_channel ∙ sh.channel;
        fed = fed;
        done = λ j d h. rw (takens j (λ e. absurd (omega arith)), puts (suc j) (λ e. absurd (omega arith))) (sh.done j d h);
        holds = λ j h. at_two bs 0 last j q t none low top (λ b. s2.taken j ++ b.rows ≡ s2.put j)
            (λ e. subst (λ i. s2.taken i ++ t.rows ≡ s2.put i) (sym e) holds_t)
            (λ e. subst (λ i. s2.taken i ++ q.rows ≡ s2.put i) (sym e) holds_q)
            (λ a b. rw (takens j a, puts j b) (sh.holds j h));
        capacity = λ j h. at_two bs 0 last j q t none low top (λ b. b.capacity ≡ input.plan.capacity) (λ e. cap_t) (λ e. cap_q) (λ a b. sh.capacity j h);
      }

  abbrev Shown : Type 0
  Shown = Shows gas input v ws (set (set bs 0 q) last t) (turn line s 0)

  -- if a row is left and the belt has room, the feeder has a row to put
  has_row : length (s.put 0) < length (rows_on gas input 0 0) → (0 < f.to_put) × (0 < length f.rows)
  has_row more =
      let fed = sh.fed in (
        omega (arith, more, fed.puts, high),
        omega (arith, more, ap length fed.queue, length-append (s.put 0) f.rows, length-append (rows_on gas input 0 0) (emptied f.channel (s.taken last))),
      )

  shut_put : (0 < f.to_put → 0 < length f.rows → length (belt bs 0).rows < (belt bs 0).capacity → ⊥) → put_open line s 0 ≡ false
  shut_put full =
      put_shut line s 0 (λ more. elim (cases_lt (length (belt bs 0).rows) (belt bs 0).capacity) [
        | inl room ↦ absurd (full (has_row more).0 (has_row more).1 room)
        | inr no_room ↦ omega (arith, no_room, length_to, cap_to)
      ])

  still_step : t ≡ belt bs last → q ≡ belt bs 0 → v ≡ f → (0 < f.to_put → 0 < length f.rows → length (belt bs 0).rows < (belt bs 0).capacity → ⊥) →
      (length (s.taken last) < length (s.put last) → ⊥) → Shown
  still_step same_t same_q same full none =
      let no_take : take_open line s last ≡ false = take_shut line s last (λ more. absurd (none more)) in
      let e : turn line s 0 ≡ s = (turn_idle line s 0 (le-ltb last 0 (omega arith)) (shut_put full) no_take).1 in
      subst (λ u. Shows gas input v ws (set (set bs 0 q) last t) u) (sym e)
      (shows_feeder s (λ j ne. refl) (λ j ne. refl) (ap (λ (u : FeederModel). u.channel) same)
      (subst (λ u. MayHaveFed u 1 (rows_on gas input 0 0) (s.put 0) (s.taken last)) (sym same) sh.fed)
      (rw same_q holds_to)
      (rw same_t holds_from)
      (ap (λ (b : BeltModel). b.capacity) same_q ∙ cap_to)
      (ap (λ (b : BeltModel). b.capacity) same_t ∙ cap_from))

  feeder_step : (r : Turned) → v.channel ≡ f.channel → TurnedBetween f v (belt bs 0) q (belt bs last) t r → Shown
  feeder_step Took same c =
      let row : RowModel = c.0 in
      let step = taken (belt bs last) row c.1.0 t c.1.1 in
      let holds_t : s.taken last ++ row ∷ t.rows ≡ s.put last = rw (ap (λ (b : BeltModel). b.rows) step) at holds_from in
      let low = sh.is_input.workers in
      let opens : take_open line s last ≡ true = take_opened line s last (longer (s.taken last) row t.rows (s.put last) holds_t) (inl refl) in
      let e : turn line s 0 ≡ after_take s last = (turn_take line s 0 (le-ltb last 0 (omega arith)) (shut_put c.5) opens).1 in
      let now : grown s.taken last (s.put last) last ≡ s.taken last ++ row ∷ [] = grown_by s.taken last row t.rows (s.put last) holds_t in
      let first : grown s.taken last (s.put last) 0 ≡ s.taken 0 = grown_other s.taken last (s.put last) 0 (λ z. absurd (omega arith)) in
      subst (λ u. Shows gas input v ws (set (set bs 0 q) last t) u) (sym e)
      (shows_feeder (after_take s last) (λ j ne. refl) (λ j ne. grown_other s.taken last (s.put last) j ne) same
      (rw now (c.3 1 (rows_on gas input 0 0) (s.put 0) (s.taken last) sh.fed))
      (rw (first, c.2) holds_to)
      (rw now (append_assoc (s.taken last) (row ∷ []) t.rows ∙ holds_t))
      (ap (λ (b : BeltModel). b.capacity) c.2 ∙ cap_to)
      (sym (ap (λ (b : BeltModel). b.capacity) step) ∙ cap_from))
  feeder_step Put same c =
      let row : RowModel = c.0 in
      let step = sent (belt bs 0) row c.1.0 q c.1.1 in
      let fed : MayHaveFed v 1 (rows_on gas input 0 0) (s.put 0 ++ row ∷ []) (s.taken last) = c.3 1 (rows_on gas input 0 0) (s.put 0) (s.taken last) sh.fed in
      let pre = one_pass_prefix v (rows_on gas input 0 0) (s.put 0 ++ row ∷ []) (s.taken last) fed (high ∙ ap (λ c. c.height) (sym same)) in
      let comes : s.put 0 ++ row ∷ pre.0 ≡ (rows_on gas input 0 0) = sym (append_assoc (s.put 0) (row ∷ []) pre.0) ∙ pre.1 in
      let low = sh.is_input.workers in
      let room : length (belt bs 0).rows < (belt bs 0).capacity = step.0 in
      let opens : put_open line s 0 ≡ true = put_opened line s 0 (longer (s.put 0) row pre.0 (rows_on gas input 0 0) comes) (omega (arith, length_to, cap_to, room)) in
      let e : turn line s 0 ≡ after_put line s 0 = (turn_put line s 0 (le-ltb last 0 (omega arith)) opens).1 in
      let now : grown s.put 0 (rows_on gas input 0 0) 0 ≡ s.put 0 ++ row ∷ [] = grown_by s.put 0 row pre.0 (rows_on gas input 0 0) comes in
      let behind : grown s.put 0 (rows_on gas input 0 0) last ≡ s.put last = grown_other s.put 0 (rows_on gas input 0 0) last (λ z. absurd (omega arith)) in
      let rows : q.rows ≡ (belt bs 0).rows ++ row ∷ [] = ap (λ (b : BeltModel). b.rows) step.1 in
      subst (λ u. Shows gas input v ws (set (set bs 0 q) last t) u) (sym e)
      (shows_feeder (after_put line s 0) (λ j ne. grown_other s.put 0 (rows_on gas input 0 0) j ne) (λ j ne. refl) same
      (rw now fed)
      (rw (now, rows) (sym (append_assoc (s.taken 0) (belt bs 0).rows (row ∷ [])) ∙ ap (λ u. u ++ row ∷ []) holds_to))
      (rw (behind, c.2) holds_from)
      (ap (λ (b : BeltModel). b.capacity) step.1 ∙ cap_to)
      (ap (λ (b : BeltModel). b.capacity) c.2 ∙ cap_from))
  feeder_step Idle same c =
      let below = put_below line is_line s fits last (omega arith) in
      let fed = sh.fed in
      still_step c.0 c.1 c.2 c.3 (λ more. c.4 (omega (arith, more, below, fed.puts, fed.takes)) (omega (arith, more, length_from)))
  feeder_step Done same c =
      let few = put_short line is_line s fits last (omega arith) in
      let fed = sh.fed in
      let closed : f.to_take ≡ 0 = c.3 in
      still_step c.0 c.1 c.2 (λ left held room. (absurd (omega (arith, left, closed, fed.puts, fed.takes, fed.behind))))
      (λ more. absurd (omega (arith, more, few, closed, fed.takes, high)))
  feeder_step Stray same c =
      let came = c.2 sh.fed.no_stray in
      let holds_t : s.taken last ++ came.0 ∷ t.rows ≡ s.put last = rw (ap (λ (b : BeltModel). b.rows) (taken (belt bs last) came.0 came.1.0 t came.1.1)) at holds_from in
      absurd (came.3 (under_way_is_wide gas input laws sh.is_input 0 s fits last (omega arith) came.0 t.rows holds_t ∙ sym (ap (λ c. c.width) sh.channel)))

  pub feeder_step_at : (r : Turned) (x y : BeltModel) → x ≡ belt bs 0 → y ≡ belt bs last → v.channel ≡ f.channel → TurnedBetween f v x q y t r → Shown
  feeder_step_at r x y ex ey same c = feeder_step r same (rw (← ex, ← ey) c)
