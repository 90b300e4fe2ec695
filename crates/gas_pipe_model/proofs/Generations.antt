-- A pass over a lattice is a line, and its belts carry the lattice's generations.
use Rattle.std.proofs.Common.{◌≡◌, ℕ, zero, suc, ◌+◌, ◌-◌, ◌*◌, ◌≤◌, ◌<◌, Bool, min, if◌then◌else◌, Some, true, List, length, map, take, refl, eq-eqb, ap, ◌∙◌, sym, arith, ⊎_elim}
use Rattle.std.specs.List.{range_with_len}
use Rattle.std.proofs.lemmas.Bool.{cases_lt, lt-ltb, le-ltb}
use Rattle.std.proofs.Math.Nat.{min-eq_left, min-eq_right}
use Rattle.gas_geom.specs.Gas.{Rules}
use Rattle.gas_geom.specs.Channel.{ChannelModel}
use Rattle.gas_geom.specs.Lattice.{LatticeModel, next, generation}
use Rattle.gas_rows.specs.Chirality.{chirality_bit}
use Rattle.gas_stage.specs.Stage.{owed}
use Rattle.gas_stage.specs.Stages.{owed_by}
use Rattle.gas_stage.proofs.Local.{length-next}
use Rattle.gas_stage.proofs.OwedBy.{owed_by-all, owed_by-grows, owed_by-no_more}
use Rattle.gas_rows.specs.Row.{RowModel}
use Rattle.gas_pipe_model.specs.Line.{is_done}
use Rattle.gas_pipe_model.specs.Plan.{before}
use Rattle.gas_pipe_model.specs.Pass.{RunInputModel, IsRunInput, computes_from, generations_of, line_of, after, rows_on}
use Rattle.gas_pipe_model.specs.Inner.Line.{IsLine, rows_in_the_end}
use Rattle.gas_pipe_model.proofs.Shares.{before-none, before-all, before-grows}
use Rattle.gas_pipe_model.proofs.Turns.{Fits}
use Rattle.gas_pipe_model.proofs.Kept.{fits}
use Rattle.gas_pipe_model.proofs.Totals.{carried_all}

module _ (gas : Rules) (input : RunInputModel) where
  -- the rows of generation n
  abbrev pub at : ℕ → List RowModel
  at n = generation gas input.lattice.channel (chirality_bit input.chirality input.lattice.channel.width) input.first input.lattice.rows n

  abbrev step : ℕ → List RowModel → List RowModel
  step g q = next gas input.lattice.channel (chirality_bit input.chirality input.lattice.channel.width g) q

  at_high : length input.lattice.rows ≡ input.lattice.channel.height → (n : ℕ) → length (at n) ≡ input.lattice.channel.height
  at_high high zero = high
  at_high high (suc n) = length-next gas input.lattice.channel (chirality_bit input.chirality input.lattice.channel.width (input.first + n)) (at n)

module _ (gas : Rules) (input : RunInputModel) (is : IsRunInput gas input) (n : ℕ) where
  -- the rows behind the first k stages
  abbrev behind : ℕ → List RowModel
  behind k = at gas input (min (n * input.plan.stages + k) input.plan.generations)

  behind_high : (k : ℕ) → length (behind k) ≡ input.lattice.channel.height
  behind_high k = at_high gas input is.lattice.high (min (n * input.plan.stages + k) input.plan.generations)

  -- all rows of a lattice go over each belt
  pub rows_high : (k : ℕ) → length (rows_on gas input n k) ≡ input.lattice.channel.height
  rows_high k = behind_high (before input.plan k)

  pub pass_is_line : IsLine (line_of gas input n)
  pass_is_line = record {
    grows = λ k xs ys h. owed_by-grows gas input.lattice.channel input.chirality (generations_of input.first input.plan n k) xs ys (omega (arith, rows_high 0, h));
    all = λ k xs h. owed_by-all gas input.lattice.channel input.chirality (generations_of input.first input.plan n k) xs (h ∙ rows_high 0) ∙ sym (rows_high 0);
    no_more = λ k xs. owed_by-no_more gas input.lattice.channel input.chirality (generations_of input.first input.plan n k) xs;
    room = is.room;
  }

  -- for all rows of a lattice a stage that computes owes the next lattice
  owed_whole : (g : ℕ) (q : List RowModel) → length q ≡ input.lattice.channel.height → owed gas input.lattice.channel input.chirality (Some g) q ≡ step gas input g q
  owed_whole g q e =
      ap (λ (b : Bool). if b then step gas input g q else take (length q - 1) (step gas input g q)) (eq-eqb (length q) input.lattice.channel.height e)

  -- for the rows behind k stages the next stage owes the rows behind it
  stage_next : (k : ℕ) → owed gas input.lattice.channel input.chirality (computes_from input.first input.plan n (suc k)) (behind k) ≡ behind (suc k)
  stage_next k =
      let done : n * input.plan.stages + suc k - 1 ≡ n * input.plan.stages + k = omega arith in
      let e : n * input.plan.stages + suc k ≡ suc (n * input.plan.stages + k) = omega arith in
      ⊎_elim
      (λ (on : n * input.plan.stages + k < input.plan.generations).
      rw (done, lt-ltb (n * input.plan.stages + k) input.plan.generations on)
      (owed_whole (input.first + (n * input.plan.stages + k)) (behind k) (behind_high k)
      ∙ ap (λ (g : ℕ). step gas input (input.first + (n * input.plan.stages + k)) (at gas input g)) (min-eq_left (omega (arith, on)))
      ∙ ap (at gas input) (sym (min-eq_left on))
      ∙ ap (λ (g : ℕ). at gas input (min g input.plan.generations)) (sym e)))
      (λ (past : input.plan.generations ≤ n * input.plan.stages + k).
      rw (done, le-ltb (n * input.plan.stages + k) input.plan.generations past)
      (ap (at gas input) (min-eq_right past ∙ sym (min-eq_right (let more : input.plan.generations ≤ n * input.plan.stages + suc k = omega (arith, past) in more)))))
      (cases_lt (n * input.plan.stages + k) input.plan.generations)

  -- and so do the c stages behind them
  stages_next : (k c : ℕ) → owed_by gas input.lattice.channel input.chirality (map (computes_from input.first input.plan n) (range_with_len (k + 1) c)) (behind k) ≡ behind (k + c)
  stages_next k zero = ap behind (let e : k ≡ k + 0 = omega arith in e)
  stages_next k (suc c) =
      let one : suc k ≡ k + 1 = omega arith in
      let all : k + 1 + c ≡ k + suc c = omega arith in
      ap (owed_by gas input.lattice.channel input.chirality (map (computes_from input.first input.plan n) (range_with_len (k + 1 + 1) c)))
      (ap (λ (i : ℕ). owed gas input.lattice.channel input.chirality (computes_from input.first input.plan n i) (behind k)) (sym one) ∙ stage_next k ∙ ap behind one)
      ∙ stages_next (k + 1) c
      ∙ ap behind all

  -- for all rows of one belt a worker owes the rows of the next
  pub owes_next : (k : ℕ) → owed_by gas input.lattice.channel input.chirality (generations_of input.first input.plan n (suc k)) (rows_on gas input n k) ≡ rows_on gas input n (suc k)
  owes_next k =
      let same : suc k - 1 ≡ k = omega arith in
      let to : before input.plan k + (before input.plan (suc k) - before input.plan k) ≡ before input.plan (suc k) = omega (arith, before-grows input.plan k) in
      ap
      (λ (m : ℕ).
      owed_by gas input.lattice.channel input.chirality
      (map (computes_from input.first input.plan n) (range_with_len (before input.plan m + 1) (before input.plan (suc k) - before input.plan m))) (rows_on gas input n k))
      same
      ∙ stages_next (before input.plan k) (before input.plan (suc k) - before input.plan k)
      ∙ ap behind to

  pub carries : (k : ℕ) → rows_in_the_end (line_of gas input n) k ≡ rows_on gas input n k
  carries zero = refl
  carries (suc k) = ap (owed_by gas input.lattice.channel input.chirality (generations_of input.first input.plan n (suc k))) (carries k) ∙ owes_next k

  -- what every turn of the pass keeps, and what its belts have carried once it is done
  pub pass_fits : (turns : List ℕ) → Fits (line_of gas input n) (after gas input n turns)
  pass_fits turns = fits (line_of gas input n) pass_is_line turns

  pub pass_carries : (turns : List ℕ) → is_done (line_of gas input n) (after gas input n turns) ≡ true → (k : ℕ) → k ≤ input.plan.threads →
      ((after gas input n turns).put k ≡ rows_on gas input n k) × ((after gas input n turns).taken k ≡ rows_on gas input n k)
  pass_carries turns done k h =
      let all = carried_all (line_of gas input n) pass_is_line (after gas input n turns) (pass_fits turns) done k h in
      (all.0 ∙ carries k, all.1 ∙ carries k)

-- the first pass begins with the lattice, and each later pass where the pass before it ended
pub begins_first : (gas : Rules) (input : RunInputModel) → 0 < input.plan.threads → rows_on gas input 0 0 ≡ input.lattice.rows
begins_first gas input some =
    let e : 0 * input.plan.stages + before input.plan 0 ≡ 0 = omega (arith, before-none input.plan some) in
    ap (λ (g : ℕ). at gas input (min g input.plan.generations)) e ∙ ap (at gas input) (min-eq_left (let z : 0 ≤ input.plan.generations = omega arith in z))

pub begins_next : (gas : Rules) (input : RunInputModel) → 0 < input.plan.threads → (n : ℕ) → rows_on gas input n input.plan.threads ≡ rows_on gas input (n + 1) 0
begins_next gas input some n =
    let e : n * input.plan.stages + before input.plan input.plan.threads ≡ (n + 1) * input.plan.stages + before input.plan 0 =
    omega (arith, before-none input.plan some, before-all input.plan, let m : (n + 1) * input.plan.stages ≡ n * input.plan.stages + input.plan.stages = omega arith in m) in
    ap (λ (g : ℕ). at gas input (min g input.plan.generations)) e

-- the last belt of a pass after which no generation is left
pub ends_last : (gas : Rules) (input : RunInputModel) (n : ℕ) → input.plan.generations ≤ (n + 1) * input.plan.stages →
    rows_on gas input n input.plan.threads ≡ at gas input input.plan.generations
ends_last gas input n enough =
    let e : (n + 1) * input.plan.stages ≡ n * input.plan.stages + input.plan.stages = omega arith in
    ap (at gas input) (min-eq_right (omega (arith, enough, e, before-all input.plan)))

-- a lattice is its channel and its rows
pub same_lattice : (l : LatticeModel) (c : ChannelModel) (rows : List RowModel) → l.channel ≡ c → l.rows ≡ rows → l ≡ record { channel = c; rows = rows }
same_lattice l c rows channel is =
    ap (λ (d : ChannelModel). record { channel = d; rows = l.rows }) channel ∙ ap (λ (r : List RowModel). record { channel = c; rows = r }) is
