-- Rows with their solid cells emptied: rows of a lattice stay as they are, also if one lattice follows another.
use Rattle.std.proofs.Common.{◌≡◌, ℕ, zero, suc, ◌+◌, ◌*◌, ◌%◌, ◌≤◌, ◌<◌, Bool, true, false, if◌then◌else◌, List, [], ◌∷◌, ◌++◌, length, take, drop, get_or, refl, ap, sym, ◌∙◌, subst, arith, ⊎_elim}
use Rattle.std.proofs.lemmas.Bool.{cases_Bool}
use Rattle.std.proofs.lemmas.List.{length-append}
use Rattle.std.proofs.lemmas.List.FromFn.{fill_by_all}
use Rattle.std.proofs.Math.Nat.{mod-eq_of_lt, add-mul-mod_self_right, suc-mul}
use Rattle.gas_geom.specs.Gas.{Rules}
use Rattle.gas_geom.specs.Channel.{ChannelModel, is_solid}
use Rattle.gas_geom.specs.Lattice.{IsLattice, cell, row_of}
use Rattle.gas_rows.proofs.Rows.{row_of-same}
use Rattle.gas_rows.specs.Row.{RowModel}
use Rattle.gas_pipe_model.specs.Inner.Circle.{joined}
use Rattle.gas_pipe_members.specs.Feeder.{emptied_row, emptied_from}
use Rattle.gas_pipe_members.specs.Inner.Queue.{emptied}

row_same : (row : RowModel) → row_of (length row) (λ x. get_or row x 0) ≡ row
row_same row = sym (fill_by_all (λ x. get_or row x 0) row (length row) 0 refl (λ _ _. refl))

-- a row that is empty at its solid cells stays as it is
emptied_row_same : (c : ChannelModel) (y : ℕ) (row : RowModel) → ((x : ℕ) → is_solid c x y ≡ true → get_or row x 0 ≡ 0) → emptied_row c y row ≡ row
emptied_row_same c y row empty =
    row_of-same 0 (length row) (λ x. if is_solid c x y then 0 else get_or row x 0) (λ x. get_or row x 0) same ∙ row_same row
  where
    same : (x : ℕ) → x < length row → (if is_solid c x y then 0 else get_or row x 0) ≡ get_or row x 0
    same x _ =
        ⊎_elim
        (λ (solid : is_solid c x y ≡ true). ap (λ (b : Bool). if b then 0 else get_or row x 0) solid ∙ sym (empty x solid))
        (λ (free : is_solid c x y ≡ false). ap (λ (b : Bool). if b then 0 else get_or row x 0) free)
        (cases_Bool (is_solid c x y))

emptied_same : (c : ChannelModel) (n : ℕ) (rows : List RowModel) → n + length rows ≤ c.height →
    ((x y : ℕ) → y < length rows → is_solid c x (n + y) ≡ true → cell rows x y ≡ 0) → emptied_from c n rows ≡ rows
emptied_same c n [] fit empty = refl
emptied_same c n (row ∷ rows) fit empty =
    let here : n % c.height ≡ n = mod-eq_of_lt (omega arith) in
    ap (λ k. emptied_row c k row ∷ emptied_from c (n + 1) rows) here
    ∙ ap (λ r. r ∷ emptied_from c (n + 1) rows)
    (emptied_row_same c n row (λ x solid. empty x 0 (omega arith) (subst (λ k. is_solid c x k ≡ true) (let e : n ≡ n + 0 = omega arith in e) solid)))
    ∙ ap (λ (rest : List RowModel). row ∷ rest)
    (emptied_same c (n + 1) rows (omega arith)
    (λ x y h solid. empty x (suc y) (omega arith) (subst (λ k. is_solid c x k ≡ true) (let e : n + 1 + y ≡ n + suc y = omega arith in e) solid)))

-- a lattice's rows are empty at its solid cells already
pub emptied_lattice : (gas : Rules) (c : ChannelModel) (rows : List RowModel) → IsLattice gas c rows → emptied c rows ≡ rows
emptied_lattice gas c rows is =
    emptied_same c 0 rows (let high = is.high in omega arith)
    (λ x y _ solid. is.empty x y (subst (λ k. is_solid c x k ≡ true) (let e : 0 + y ≡ y = omega arith in e) solid))

pub emptied_from-append : (c : ChannelModel) (n : ℕ) (xs ys : List RowModel) → emptied_from c n (xs ++ ys) ≡ emptied_from c n xs ++ emptied_from c (n + length xs) ys
emptied_from-append c n [] ys = ap (λ (k : ℕ). emptied_from c k ys) (let e : n ≡ n + 0 = omega arith in e)
emptied_from-append c n (x ∷ xs) ys =
    ap (λ (l : List RowModel). emptied_row c (n % c.height) x ∷ l) (emptied_from-append c (n + 1) xs ys)
    ∙ ap (λ (k : ℕ). emptied_from c n (x ∷ xs) ++ emptied_from c k ys) (let e : n + 1 + length xs ≡ n + length (x ∷ xs) = omega arith in e)

take-emptied_from : (c : ChannelModel) (n m : ℕ) (q : List RowModel) → take m (emptied_from c n q) ≡ emptied_from c n (take m q)
take-emptied_from c n zero q = refl
take-emptied_from c n (suc m) [] = refl
take-emptied_from c n (suc m) (x ∷ q) = ap (λ (l : List RowModel). emptied_row c (n % c.height) x ∷ l) (take-emptied_from c (n + 1) m q)

pub take-emptied : (c : ChannelModel) (m : ℕ) (q : List RowModel) → take m (emptied c q) ≡ emptied c (take m q)
take-emptied c m q = take-emptied_from c 0 m q

drop-emptied_from : (c : ChannelModel) (n m : ℕ) (q : List RowModel) → drop m (emptied_from c n q) ≡ emptied_from c (n + m) (drop m q)
drop-emptied_from c n zero q = ap (λ (k : ℕ). emptied_from c k q) (let e : n ≡ n + 0 = omega arith in e)
drop-emptied_from c n (suc m) [] = refl
drop-emptied_from c n (suc m) (x ∷ q) =
    drop-emptied_from c (n + 1) m q ∙ ap (λ (k : ℕ). emptied_from c k (drop m q)) (let e : n + 1 + m ≡ n + suc m = omega arith in e)

-- rows of later lattices have the places of the first lattice's rows
later : (c : ChannelModel) (a n : ℕ) (q : List RowModel) → emptied_from c (a + n * c.height) q ≡ emptied_from c a q
later c a n [] = refl
later c a n (x ∷ q) =
    ap (λ (k : ℕ). emptied_row c k x ∷ emptied_from c (a + n * c.height + 1) q) (add-mul-mod_self_right a n c.height)
    ∙ ap (λ (l : List RowModel). emptied_row c (a % c.height) x ∷ l)
    (ap (λ (k : ℕ). emptied_from c k q) (let e : a + n * c.height + 1 ≡ a + 1 + n * c.height = omega arith in e) ∙ later c (a + 1) n q)

pub drop-emptied : (c : ChannelModel) (n : ℕ) (q : List RowModel) → drop (n * c.height) (emptied c q) ≡ emptied c (drop (n * c.height) q)
drop-emptied c n q = drop-emptied_from c 0 (n * c.height) q ∙ later c 0 n (drop (n * c.height) q)

-- the rows of one lattice after another
pub emptied_joined : (gas : Rules) (c : ChannelModel) (rows : ℕ → List RowModel) → ((n : ℕ) → IsLattice gas c (rows n)) → (n : ℕ) → length (joined rows n) ≡ n * c.height →
    emptied c (joined rows n) ≡ joined rows n
unfolding joined
emptied_joined gas c rows is zero e = refl
emptied_joined gas c rows is (suc n) e =
    let long : length (joined rows n) ≡ n * c.height = omega (arith, e, length-append (joined rows n) (rows n), (is n).high, suc-mul n c.height) in
    emptied_from-append c 0 (joined rows n) (rows n)
    ∙ ap (λ (l : List RowModel). l ++ emptied_from c (0 + length (joined rows n)) (rows n)) (emptied_joined gas c rows is n long)
    ∙ ap (λ (k : ℕ). joined rows n ++ emptied_from c (0 + k) (rows n)) long
    ∙ ap (λ (l : List RowModel). joined rows n ++ l) (later c 0 n (rows n) ∙ emptied_lattice gas c (rows n) (is n))
