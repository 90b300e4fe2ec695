-- The queue of a feeder through its steps, from a lattice to a lattice.
use Rattle.std.proofs.Common.{◌≡◌, ℕ, suc, ◌+◌, ◌-◌, ◌*◌, ◌%◌, ◌^◌, ◌<◌, ◌≤◌, Bool, true, if◌then◌else◌, List, [], ◌∷◌, ◌++◌, length, get_or, ap, ◌∙◌, sym, refl, subst, arith, ⊎_elim}
use Rattle.std.proofs.lemmas.Bool.{cases_lt}
use Rattle.std.proofs.lemmas.List.{length-append, get_or_append_left, get_or_push, get_or_past}
use Rattle.std.proofs.lemmas.List.FromFn.{get_or-map-range_with_len, length-map-range_with_len}
use Rattle.std.proofs.lemmas.Nat.{pow_pos}
use Rattle.std.proofs.Math.Nat.{mod-add-mod, mod-eq_of_lt, zero-mod, add-mod_left, add-mul-mod_self_right, mul-mod_left, mul-le-mul_left}
use Rattle.gas_geom.specs.Gas.{Rules}
use Rattle.gas_geom.specs.Channel.{ChannelModel, is_solid}
use Rattle.gas_geom.specs.Lattice.{IsLattice, cell}
use Rattle.gas_rows.specs.Row.{RowModel}
use Rattle.gas_pipe_members.specs.Feeder.{emptied_row}
use Rattle.gas_pipe_members.specs.Inner.Queue.{IsQueue}

-- numbers below h are equal if they are equal, up to multiples of h, with k more
mod_cancel : (a b k h : ℕ) → a < h → b < h → (a + k) % h ≡ (b + k) % h → a ≡ b
mod_cancel a b k h below_a below_b e = sym (back a below_a) ∙ ap (λ (n : ℕ). (n + (k * h - k)) % h) e ∙ back b below_b
  where
    back : (x : ℕ) → x < h → ((x + k) % h + (k * h - k)) % h ≡ x
    back x below =
        let some : 1 ≤ h = omega arith in
        let few : k * 1 ≤ k * h = mul-le-mul_left k some in
        mod-add-mod (x + k) h (k * h - k)
        ∙ ap (λ (n : ℕ). n % h) (let same : x + k + (k * h - k) ≡ x + k * h = omega arith in same)
        ∙ add-mul-mod_self_right x k h ∙ mod-eq_of_lt below

-- the row whose place is after the last one is the row that comes back next
next_place : (h y next to_put to_take n : ℕ) → y < h → next < h → n + to_take ≡ h + to_put → (next + to_take) % h ≡ 0 → (y + to_put) % h ≡ n → y ≡ next
next_place h y next to_put to_take n below_y below_next long place at =
    mod_cancel y next (to_take + to_put) h below_y below_next (left ∙ sym right)
  where
    left : (y + (to_take + to_put)) % h ≡ to_put % h
    left =
        ap (λ (m : ℕ). m % h) (let e : y + (to_take + to_put) ≡ y + to_put + to_take = omega arith in e)
        ∙ sym (mod-add-mod (y + to_put) h to_take)
        ∙ ap (λ (m : ℕ). (m + to_take) % h) at ∙ ap (λ (m : ℕ). m % h) long ∙ add-mod_left h to_put

    right : (next + (to_take + to_put)) % h ≡ to_put % h
    right =
        ap (λ (m : ℕ). m % h) (let e : next + (to_take + to_put) ≡ next + to_take + to_put = omega arith in e)
        ∙ sym (mod-add-mod (next + to_take) h to_put)
        ∙ ap (λ (m : ℕ). (m + to_put) % h) place ∙ ap (λ (m : ℕ). m % h) (let e : 0 + to_put ≡ to_put = omega arith in e)

cell_past : (rows : List RowModel) (x y : ℕ) → length rows ≤ y → cell rows x y ≡ 0
cell_past rows x y past = ap (λ (row : RowModel). get_or row x 0) (get_or_past rows y [] past)

-- what is true of each row, of one more, and of no row, is true of the rows with that one at the end
at_push : (P : ℕ → RowModel → Type 0) (rows : List RowModel) (row : RowModel) → ((i : ℕ) → i < length rows → P i (get_or rows i [])) → P (length rows) row →
    ((i : ℕ) → length rows < i → P i []) → (i : ℕ) → P i (get_or (rows ++ row ∷ []) i [])
at_push P rows row before last past i =
    ⊎_elim
    (λ (h : i < length rows). subst (P i) (sym (get_or_append_left rows (row ∷ []) [] i h)) (before i h))
    (λ (h : length rows ≤ i). ⊎_elim
    (λ (more : length rows < i). subst (P i) (sym (get_or_past (rows ++ row ∷ []) i [] (omega (arith, length-append rows (row ∷ []))))) (past i more))
    (λ (less : i ≤ length rows).
    let here : length rows ≡ i = omega arith in
    subst (P i) (sym (get_or_push rows row [] i here)) (subst (λ (k : ℕ). P k row) here last))
    (cases_lt (length rows) i))
    (cases_lt i (length rows))

-- a solid cell is empty in the row with its solid cells empty
emptied-solid : (c : ChannelModel) (y : ℕ) (row : RowModel) (x : ℕ) → is_solid c x y ≡ true → get_or (emptied_row c y row) x 0 ≡ 0
emptied-solid c y row x solid =
    ⊎_elim
    (λ (h : x < length row).
    get_or-map-range_with_len value 0 (length row) x x 0 h (omega arith) ∙ ap (λ (b : Bool). if b then 0 else get_or row x 0) solid)
    (λ (h : length row ≤ x). get_or_past (emptied_row c y row) x 0 (omega (arith, length-map-range_with_len value 0 (length row))))
    (cases_lt x (length row))
  where
    value : ℕ → ℕ
    value k = if is_solid c k y then 0 else get_or row k 0

-- a lattice's rows, before the first pass
pub queue_new : (gas : Rules) (c : ChannelModel) (rows : List RowModel) → IsLattice gas c rows → IsQueue gas c rows 0 0 0
queue_new gas c rows is = record {
  long = omega (arith, is.high);
  last = zero-mod c.height;
  wide = λ i h. is.wide i (omega (arith, is.high));
  sets = is.sets;
  empty = λ x y h solid.
      ap (λ (i : ℕ). cell rows x i) (ap (λ (n : ℕ). n % c.height) (let e : y + 0 ≡ y = omega arith in e) ∙ mod-eq_of_lt h) ∙ is.empty x y solid;
}

-- passes are opened over all rows
pub queue_begin : (gas : Rules) (c : ChannelModel) (rows : List RowModel) (to_put to_take next passes total : ℕ) → IsQueue gas c rows to_put to_take next →
    to_put ≤ to_take → to_take ≡ 0 → total ≡ passes * c.height → IsQueue gas c rows total total 0
queue_begin gas c rows to_put to_take next passes total q first over all = record {
  long = omega (arith, q.long);
  last = ap (λ (n : ℕ). n % c.height) (let e : 0 + total ≡ passes * c.height = omega arith in e) ∙ mul-mod_left passes c.height;
  wide = q.wide;
  sets = q.sets;
  empty = λ x y h solid.
      ap (λ (i : ℕ). cell rows x i)
      (ap (λ (n : ℕ). (y + n) % c.height) all ∙ add-mul-mod_self_right y passes c.height
      ∙ ap (λ (n : ℕ). n % c.height) (let e : y ≡ y + to_put = omega arith in e))
      ∙ q.empty x y h solid;
}

-- the first row was put
pub queue_put : (gas : Rules) (c : ChannelModel) (row : RowModel) (rows : List RowModel) (old_put to_put to_take next : ℕ) →
    IsQueue gas c (row ∷ rows) old_put to_take next → old_put ≡ to_put + 1 → old_put ≤ to_take → IsQueue gas c rows to_put to_take next
queue_put gas c row rows old_put to_put to_take next q one first = record {
  long = omega (arith, q.long);
  last = q.last;
  wide = λ i h. q.wide (suc i) (omega arith);
  sets = λ x i. q.sets x (suc i);
  empty = λ x y h solid. stays x y h solid ((y + to_put) % c.height) refl;
}
  where
    stays : (x y : ℕ) → y < c.height → is_solid c x y ≡ true → (i : ℕ) → (y + to_put) % c.height ≡ i → cell rows x i ≡ 0
    stays x y h solid i at =
        ⊎_elim
        (λ (within : i + 1 < c.height).
        let place : (y + old_put) % c.height ≡ suc i =
        ap (λ (n : ℕ). n % c.height) (let e : y + old_put ≡ y + to_put + 1 = omega arith in e)
        ∙ sym (mod-add-mod (y + to_put) c.height 1) ∙ ap (λ (n : ℕ). (n + 1) % c.height) at ∙ mod-eq_of_lt within
        ∙ (let e : i + 1 ≡ suc i = omega arith in e)
        in
        sym (ap (λ (k : ℕ). cell (row ∷ rows) x k) place) ∙ q.empty x y h solid)
        (λ (past : c.height ≤ i + 1). cell_past rows x i (omega (arith, q.long)))
        (cases_lt (i + 1) c.height)

-- the next row came back
pub queue_take : (gas : Rules) (c : ChannelModel) (rows : List RowModel) (to_put old_take to_take old_next next : ℕ) (row : RowModel) →
    IsQueue gas c rows to_put old_take old_next → old_take ≡ to_take + 1 → next ≡ (old_next + 1) % c.height → old_next < c.height →
    length row ≡ c.width → ((x : ℕ) → get_or (emptied_row c old_next row) x 0 < 2 ^ gas.dirs) → IsQueue gas c (rows ++ emptied_row c old_next row ∷ []) to_put to_take next
queue_take gas c rows to_put old_take to_take old_next next row q one follows below wide sets = record {
  long = omega (arith, q.long, longer);
  last =
      ap (λ (n : ℕ). (n + to_take) % c.height) follows ∙ mod-add-mod (old_next + 1) c.height to_take
      ∙ ap (λ (n : ℕ). n % c.height) (let e : old_next + 1 + to_take ≡ old_next + old_take = omega arith in e) ∙ q.last;
  wide = λ i h. at_push (λ k r. k < length rows + 1 → length r ≡ c.width) rows (emptied_row c old_next row)
      (λ k inside _. q.wide k inside)
      (λ _. length-map-range_with_len (λ x. if is_solid c x old_next then 0 else get_or row x 0) 0 (length row) ∙ wide)
      (λ k past within. absurd (omega arith))
      i (omega (arith, longer));
  sets = λ x i. at_push (λ k r. get_or r x 0 < 2 ^ gas.dirs) rows (emptied_row c old_next row)
      (λ k _. q.sets x k)
      (sets x)
      (λ k _. pow_pos gas.dirs)
      i;
  empty = λ x y h solid. at_push (λ k r. (y + to_put) % c.height ≡ k → get_or r x 0 ≡ 0) rows (emptied_row c old_next row)
      (λ k _ at. ap (λ (i : ℕ). cell rows x i) (sym at) ∙ q.empty x y h solid)
      (λ at. last x y solid (next_place c.height y old_next to_put old_take (length rows) h below q.long q.last at))
      (λ k _ _. refl)
      ((y + to_put) % c.height) refl;
}
  where
    longer : length (rows ++ emptied_row c old_next row ∷ []) ≡ length rows + 1
    longer = length-append rows (emptied_row c old_next row ∷ [])

    last : (x y : ℕ) → is_solid c x y ≡ true → y ≡ old_next → get_or (emptied_row c old_next row) x 0 ≡ 0
    last x y solid here = emptied-solid c old_next row x (sym (ap (λ (k : ℕ). is_solid c x k) here) ∙ solid)

-- if nothing is left to put or take, the queue is a lattice
pub queue_closed : (gas : Rules) (c : ChannelModel) (rows : List RowModel) (to_put to_take next : ℕ) → IsQueue gas c rows to_put to_take next →
    to_put ≤ to_take → to_take ≡ 0 → IsLattice gas c rows
queue_closed gas c rows to_put to_take next q first over = record {
  high = high;
  wide = λ y h. q.wide y (omega (arith, high));
  sets = q.sets;
  empty = λ x y solid. ⊎_elim
      (λ (h : y < c.height).
      sym (ap (λ (i : ℕ). cell rows x i) (ap (λ (n : ℕ). n % c.height) (let e : y + to_put ≡ y = omega arith in e) ∙ mod-eq_of_lt h))
      ∙ q.empty x y h solid)
      (λ (past : c.height ≤ y). cell_past rows x y (omega (arith, high)))
      (cases_lt y c.height);
}
  where
    high : length rows ≡ c.height
    high = omega (arith, q.long)
