-- A run that is over: what its belts carried, and the rows of the feeder.
use Rattle.std.proofs.Common.{◌≡◌, ℕ, suc, ◌+◌, ◌-◌, ◌*◌, ◌≤◌, ◌<◌, ◌++◌, List, [], ◌∷◌, length, map, take, drop, refl, ap, sym, subst, ◌∙◌, arith}
use Rattle.std.specs.Prelude.{get_or}
use Rattle.std.specs.Int.{div_ceil}
use Rattle.std.specs.List.{range_with_len}
use Rattle.std.proofs.lemmas.Bool.{ne_eqb}
use Rattle.std.proofs.lemmas.List.{length-append, length-map, map-id}
use Rattle.std.proofs.lemmas.Simd.{map-map}
use Rattle.std.proofs.lemmas.List.FromFn.{length-map-range_with_len, get_or-map-range_with_len}
use Rattle.gas_geom.specs.Gas.{Rules, IsGas}
use Rattle.gas_geom.specs.Channel.{ChannelModel}
use Rattle.gas_geom.specs.Lattice.{LatticeModel, IsLattice}
use Rattle.gas_stage.specs.Evolution.{lattice_after}
use Rattle.gas_rows.proofs.Rows.{row_of-same}
use Rattle.gas_belt.specs.Belt.{CarriedModel}
use Rattle.gas_rows.specs.Row.{RowModel}
use Rattle.gas_pipe_model.specs.Pass.{RunInputModel, IsRunInput, carried_on, carried_by_belts, rows_on}
use Rattle.gas_pipe_model.specs.Inner.Circle.{joined, IsCircle, owes_in}
use Rattle.gas_pipe_model.proofs.Boundaries.{enough_passes, some_passes}
use Rattle.gas_pipe_model.proofs.Generations.{begins_first, ends_last, same_lattice}
use Rattle.gas_pipe_model.proofs.Circle.{joined_high, circle_law, left_over}
use Rattle.gas_pipe_model.proofs.PlanCircle.{is_circle, joined_is, round}
use Rattle.gas_pipe_model.proofs.Wide.{after_is_lattice}
use Rattle.gas_pipe_members.specs.Feeder.{FeederModel, MayHaveFed}
use Rattle.gas_pipe_members.specs.Inner.Queue.{emptied}
use Rattle.gas_pipe.specs.Run.{RunModel}
use Rattle.gas_pipe.specs.Inner.Links.{carrying, rows_on_belt, belts_before, IsRunOf}
use Rattle.gas_pipe_members.proofs.Emptied.{take-emptied, emptied_joined}
use Rattle.gas_pipe_members.proofs.Feeds.{fed_gave, fed_given, fed_taken, fed_holds}

-- what was put on belts that carried these rows, and what was taken from them
pub all_put : (rows : List (List RowModel)) → map (λ (b : CarriedModel). b.put) (map carrying rows) ≡ rows
all_put rows = map-map (λ (b : CarriedModel). b.put) carrying rows ∙ map-id rows

pub all_taken : (rows : List (List RowModel)) → map (λ (b : CarriedModel). b.taken) (map carrying rows) ≡ rows
all_taken rows = map-map (λ (b : CarriedModel). b.taken) carrying rows ∙ map-id rows

-- what was taken from the last of some belts
last_of : (xs : List CarriedModel) (last : CarriedModel) → get_or (map (λ (b : CarriedModel). b.taken) (xs ++ last ∷ [])) (length xs) [] ≡ last.taken
last_of [] last = refl
last_of (x ∷ xs) last = last_of xs last

-- a run with a generation to compute makes a belt more than it has workers
pub belts_made_are : (gas : Rules) (input : RunInputModel) → 0 < input.plan.generations → length (map carrying (carried_by_belts gas input)) ≡ input.plan.threads + 1
belts_made_are gas input more =
    length-map (carried_by_belts gas input) carrying
    ∙ rw (ne_eqb input.plan.generations 0 (λ none. absurd (omega (arith, none, more))))
    (length-map-range_with_len (carried_on gas input (div_ceil input.plan.generations input.plan.stages)) 0 (input.plan.threads + 1))

-- what the belts of a run carry: the rows that come back on the last, except in the last pass, are the rows of the later passes on the
-- first
module _ (gas : Rules) (input : RunInputModel) (is : IsRunInput gas input) (some : 0 < input.plan.stages) (more : 0 < input.plan.generations) where
  abbrev passes_made : ℕ
  passes_made = div_ceil input.plan.generations input.plan.stages

  carried_at : (k : ℕ) → k ≤ input.plan.threads → get_or (carried_by_belts gas input) k [] ≡ carried_on gas input passes_made k
  carried_at k le =
      rw (ne_eqb input.plan.generations 0 (λ none. absurd (omega (arith, none, more))))
      (get_or-map-range_with_len (carried_on gas input passes_made) 0 (input.plan.threads + 1) k k [] (omega (arith, le)) (omega arith))

  round_of : (n : ℕ) → 0 < n → take ((n - 1) * input.lattice.channel.height) (carried_on gas input n input.plan.threads) ≡ drop input.lattice.channel.height (carried_on gas input n 0)
  round_of n h =
      let e : n ≡ n - 1 + 1 = omega (arith, h) in
      ap (λ (m : ℕ). take ((n - 1) * input.lattice.channel.height) (carried_on gas input m input.plan.threads)) e
      ∙ round gas input is (n - 1)
      ∙ ap (λ (m : ℕ). drop input.lattice.channel.height (carried_on gas input m 0)) (sym e)

  -- the first and the last of the belts
  first_is : (first : CarriedModel) (rest : List CarriedModel) → first ∷ rest ≡ map carrying (carried_by_belts gas input) → first.put ≡ carried_on gas input passes_made 0
  first_is first rest is =
      ap (λ (l : List CarriedModel). get_or (map (λ (b : CarriedModel). b.put) l) 0 []) is
      ∙ ap (λ (l : List (List RowModel)). get_or l 0 []) (all_put (carried_by_belts gas input))
      ∙ carried_at 0 (omega arith)

  last_is : (xs : List CarriedModel) (last : CarriedModel) → xs ++ last ∷ [] ≡ map carrying (carried_by_belts gas input) → last.taken ≡ carried_on gas input passes_made input.plan.threads
  last_is xs last is =
      let long : length xs ≡ input.plan.threads = omega (arith, ap length is, length-append xs (last ∷ []), belts_made_are gas input more) in
      sym (last_of xs last)
      ∙ ap (λ (l : List CarriedModel). get_or (map (λ (b : CarriedModel). b.taken) l) (length xs) []) is
      ∙ ap (λ (l : List (List RowModel)). get_or l (length xs) []) (all_taken (carried_by_belts gas input))
      ∙ ap (λ (k : ℕ). get_or (carried_by_belts gas input) k []) long
      ∙ carried_at input.plan.threads (omega arith)

  pub rows_return : (r : RunModel) → IsRunOf gas input r → (first last : CarriedModel) (between : List CarriedModel) → r.belts ≡ first ∷ (between ++ last ∷ []) →
      take ((r.passes - 1) * input.lattice.channel.height) last.taken ≡ drop input.lattice.channel.height first.put
  rows_return r ran first last between is =
      let belts : first ∷ (between ++ last ∷ []) ≡ map carrying (carried_by_belts gas input) = sym is ∙ ran.belts in
      ap (λ (n : ℕ). take ((n - 1) * input.lattice.channel.height) last.taken) ran.passes
      ∙ ap (take ((passes_made - 1) * input.lattice.channel.height)) (last_is (first ∷ between) last belts)
      ∙ round_of passes_made (some_passes input.plan.generations input.plan.stages some more)
      ∙ ap (drop input.lattice.channel.height) (sym (first_is first (between ++ last ∷ []) belts))

-- a lattice whose rows a feeder has
pub is_lattice : (gas : Rules) (l : LatticeModel) (f : FeederModel) → f.channel ≡ l.channel → f.rows ≡ l.rows → IsLattice gas f.channel f.rows → IsLattice gas l.channel l.rows
is_lattice gas l f channel rows is =
    subst (λ (r : List RowModel). IsLattice gas l.channel r) rows (subst (λ (c : ChannelModel). IsLattice gas c f.rows) channel is)

-- a feeder whose passes are closed put and took all rows
module _ (input : RunInputModel) (f : FeederModel) (b took : List RowModel) (channel : f.channel ≡ input.lattice.channel) (over : f.to_take ≡ 0)
    (fed : MayHaveFed f (div_ceil input.plan.generations input.plan.stages) input.lattice.rows b took) where
  as_high : div_ceil input.plan.generations input.plan.stages * f.channel.height ≡ div_ceil input.plan.generations input.plan.stages * input.lattice.channel.height
  as_high = ap (λ (c : ChannelModel). div_ceil input.plan.generations input.plan.stages * c.height) channel

  pub long : length b ≡ div_ceil input.plan.generations input.plan.stages * input.lattice.channel.height
  long = fed_given f _ input.lattice.rows b took fed over ∙ as_high

  pub taken_long : length took ≡ div_ceil input.plan.generations input.plan.stages * input.lattice.channel.height
  taken_long = fed_taken f _ input.lattice.rows b took fed over ∙ as_high

-- the workers in a circle, in which the feeder empties the solid cells
module _ {gas : Rules} {input : RunInputModel} (laws : IsGas gas) (is : IsRunInput gas input) where
  abbrev high : ℕ
  high = input.lattice.channel.height

  abbrev passes : ℕ
  passes = div_ceil input.plan.generations input.plan.stages

  abbrev last_rows : ℕ → List RowModel
  last_rows = λ i. rows_on gas input i input.plan.threads

  circle_of_workers : IsCircle high input.plan.threads (owes_in gas input) (emptied input.lattice.channel) (rows_on gas input)
  circle_of_workers =
      let plain = is_circle gas input is (λ q. q) (λ m q. refl) (λ n. refl) in
      is_circle gas input is (emptied input.lattice.channel) (take-emptied input.lattice.channel)
      (λ n. emptied_joined gas input.lattice.channel last_rows (λ i. after_is_lattice gas input laws is i input.plan.threads) n
      (joined_high high input.plan.threads (owes_in gas input) (λ q. q) (rows_on gas input) plain input.plan.threads n))

  -- the feeder put b on belt 0, and took what is then on the last belt
  module _ {f : FeederModel} {b took : List RowModel} (channel : f.channel ≡ input.lattice.channel) (over : f.to_take ≡ 0) (some : 0 < input.plan.stages) (more : 0 < input.plan.generations)
      (fed : MayHaveFed f passes input.lattice.rows b took) (back : took ≡ rows_on_belt gas input b input.plan.threads) where
    height : f.channel.height ≡ high
    height = ap (λ (c : ChannelModel). c.height) channel

    all_put_on : length b ≡ passes * high
    all_put_on = long input f b took channel over fed

    first : input.lattice.rows ≡ rows_on gas input 0 0
    first = sym (begins_first gas input is.workers)

    came : input.lattice.rows ++ emptied f.channel took ≡ rows_on gas input 0 0 ++ emptied input.lattice.channel (rows_on_belt gas input b input.plan.threads)
    came =
        ap (λ (l : List RowModel). l ++ emptied f.channel took) first
        ∙ ap (λ (c : ChannelModel). rows_on gas input 0 0 ++ emptied c took) channel
        ∙ ap (λ (l : List RowModel). rows_on gas input 0 0 ++ emptied input.lattice.channel l) back

    put_round : b ≡ take (passes * high) (rows_on gas input 0 0 ++ emptied input.lattice.channel (rows_on_belt gas input b input.plan.threads))
    put_round =
        fed_gave f passes input.lattice.rows b took fed over
        ∙ ap (λ (h : ℕ). take (passes * h) (input.lattice.rows ++ emptied f.channel took)) height
        ∙ ap (take (passes * high)) came

    carries : (k : ℕ) → rows_on_belt gas input b k ≡ joined (λ i. rows_on gas input i k) passes
    carries k = circle_law high input.plan.threads (owes_in gas input) (emptied input.lattice.channel) (rows_on gas input) circle_of_workers passes b all_put_on put_round k

    -- each belt has carried the rows of all passes
    pub belts_are : belts_before gas input b (input.plan.threads + 1) ≡ map carrying (carried_by_belts gas input)
    belts_are =
        row_of-same (carrying []) (input.plan.threads + 1) (λ k. carrying (rows_on_belt gas input b k)) (λ k. carrying (carried_on gas input passes k))
        (λ k _. ap carrying (carries k ∙ joined_is (λ i. rows_on gas input i k) passes))
        ∙ sym (map-map carrying (carried_on gas input passes) (range_with_len 0 (input.plan.threads + 1)))
        ∙ ap (map carrying) (sym (rw (ne_eqb input.plan.generations 0 (λ none. absurd (omega (arith, none, more)))) refl))

    abbrev before : ℕ
    before = passes - 1

    one_more : passes ≡ suc before
    one_more = before_it passes (some_passes input.plan.generations input.plan.stages some more)
      where
        before_it : (n : ℕ) → 0 < n → n ≡ suc (n - 1)
        before_it n h = omega (arith, h)

    -- the feeder has the rows of the last generation
    pub rows_are : f.rows ≡ (lattice_after gas input.chirality input.first input.lattice input.plan.generations).rows
    rows_are =
        fed_holds f passes input.lattice.rows b took fed over
        ∙ ap (λ (h : ℕ). drop (passes * h) (input.lattice.rows ++ emptied f.channel took)) height
        ∙ ap (drop (passes * high)) came
        ∙ ap (λ (l : List RowModel). drop (passes * high) (rows_on gas input 0 0 ++ emptied input.lattice.channel l)) (carries input.plan.threads)
        ∙ ap (λ (l : List RowModel). drop (passes * high) (rows_on gas input 0 0 ++ l)) (circle_of_workers.kept passes)
        ∙ ap (λ (n : ℕ). drop (n * high) (rows_on gas input 0 0 ++ joined last_rows n)) one_more
        ∙ left_over high input.plan.threads (owes_in gas input) (emptied input.lattice.channel) (rows_on gas input) circle_of_workers before
        ∙ ends_last gas input before enough
      where
        enough : input.plan.generations ≤ (before + 1) * input.plan.stages
        enough =
            let e : passes ≡ before + 1 = omega (arith, one_more) in
            subst (λ (n : ℕ). input.plan.generations ≤ n * input.plan.stages) e (enough_passes input.plan.generations input.plan.stages some)

    pub lattice_is : (l : LatticeModel) → l.channel ≡ f.channel → l.rows ≡ f.rows → l ≡ lattice_after gas input.chirality input.first input.lattice input.plan.generations
    lattice_is l same rows =
        same_lattice l input.lattice.channel (lattice_after gas input.chirality input.first input.lattice input.plan.generations).rows (same ∙ channel) (rows ∙ rows_are)
