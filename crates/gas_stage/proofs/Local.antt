-- A row of the next lattice depends on the row itself and the two beside it alone. So rows that are fed later change no row
-- that was given, and the rows of the next lattice come one by one, each with the row after it.
use Rattle.std.proofs.Common.{◌≡◌, ℕ, ◌+◌, ◌<◌, ◌≤◌, Bool, if◌then◌else◌, Option, Some, None, List, [], ◌∷◌, ◌++◌, map, take, length, get_or, ap, ◌∙◌, sym, refl, arith}
use Rattle.std.specs.List.{range_with_len}
use Rattle.std.proofs.lemmas.List.{get_or_append_left, get_or-append-add}
use Rattle.std.proofs.lemmas.List.FromFn.{length-map-range_with_len, take-map-range_with_len, map-range_with_len_more}
use Rattle.std.proofs.lemmas.Bool.Decides.{nat_tests}
use Rattle.gas_geom.specs.Gas.{Rules, holds}
use Rattle.gas_geom.specs.declared.moves.Move.{Move}
use Rattle.gas_geom.specs.declared.moves.Move.TheVariants.{Back, Stay, On}
use Rattle.gas_geom.specs.Moves.{row_after}
use Rattle.gas_geom.specs.Laws.Steps.{is_odd, neighbour-parts}
use Rattle.gas_geom.specs.Channel.{ChannelModel, is_solid}
use Rattle.gas_geom.specs.Lattice.{cell, row_of, arriving, collided, streamed, next}
use Rattle.gas_geom.proofs.Arriving.{arrives_from, behind, sent_back}
use Rattle.gas_geom.proofs.Holds.{set_of-same}
use Rattle.gas_rows.proofs.Rows.{row_of-same}

-- row y of the rows q, collided
abbrev pub collided_at : Rules → ChannelModel → (ℕ → ℕ → Bool) → List (List ℕ) → ℕ → List ℕ
collided_at gas channel chi q y = row_of channel.width (λ x. collided gas channel chi (cell q) x y)

row_after-le : (h y y' : ℕ) (m : Move) → row_after h y m ≡ Some y' → y' ≤ y + 1
row_after-le h y y' Back there = grind (arith, nat_tests)
row_after-le h y y' Stay there = grind (arith, nat_tests)
row_after-le h y y' On there = grind (arith, nat_tests)

-- streaming at a row reads no row past the next one
streamed-local : (gas : Rules) (c : ChannelModel) (at at' : ℕ → ℕ → ℕ) (x y : ℕ) →
    ((x' y' : ℕ) → y' ≤ y + 1 → at x' y' ≡ at' x' y') → streamed gas c at x y ≡ streamed gas c at' x y
streamed-local gas c at at' x y same =
    ap (λ s. if is_solid c x y then 0 else s)
    (set_of-same gas.dirs (arriving gas c at x y) (arriving gas c at' x y) (λ i _. arrives i (behind gas c x y i) refl))
  where
    own : (i : ℕ) → sent_back gas c at x y i ≡ sent_back gas c at' x y i
    own i = ap (λ s. holds s (gas.opposite i)) (same x y (omega arith))

    arrives : (i : ℕ) (o : Option (ℕ × ℕ)) → behind gas c x y i ≡ o → arrives_from gas c at x y i o ≡ arrives_from gas c at' x y i o
    arrives i None e = own i
    arrives i (Some u) e =
        let parts = neighbour-parts gas c.width c.height x y (gas.opposite i) u.0 u.1 e in
        let near = row_after-le c.height y u.1 (gas.step (gas.opposite i) (is_odd y)).1 parts.1 in
        ap (λ v. if is_solid c u.0 u.1 then v else holds (at u.0 u.1) i) (own i)
        ∙ ap (λ s. if is_solid c u.0 u.1 then sent_back gas c at' x y i else holds s i) (same u.0 u.1 near)

-- the cells of a list of rows with more
cell-append : (q more : List (List ℕ)) (x y : ℕ) → y < length q → cell (q ++ more) x y ≡ cell q x y
cell-append q more x y h = ap (λ (row : List ℕ). get_or row x 0) (get_or_append_left q more [] y h)

pub cell-push_at : (q : List (List ℕ)) (r : List ℕ) (x y : ℕ) → y ≡ length q → cell (q ++ r ∷ []) x y ≡ get_or r x 0
cell-push_at q r x y e =
    ap (λ (row : List ℕ). get_or row x 0)
    (ap (λ n. get_or (q ++ r ∷ []) n []) (let e' : y ≡ length q + 0 = omega arith in e') ∙ get_or-append-add q (r ∷ []) 0 [])

module _ (gas : Rules) (c : ChannelModel) (chi : ℕ → ℕ → Bool) where
  -- the collided lattice of the rows q
  abbrev pub collided_of : List (List ℕ) → ℕ → ℕ → ℕ
  collided_of q = collided gas c chi (cell q)

  -- which does not change at the rows that are there
  pub collided_of-append : (q more : List (List ℕ)) (x y : ℕ) → y < length q → collided_of (q ++ more) x y ≡ collided_of q x y
  collided_of-append q more x y h = ap (λ s. if is_solid c x y then 0 else gas.collide s (chi x y)) (cell-append q more x y h)

  -- row y of the next lattice of the rows q
  abbrev pub next_row : List (List ℕ) → ℕ → List ℕ
  next_row q y = row_of c.width (λ x. streamed gas c (collided_of q) x y)

  -- a row whose neighbours are all in q does not change with more rows
  next_row-append : (q more : List (List ℕ)) (y : ℕ) → y + 1 < length q → next_row (q ++ more) y ≡ next_row q y
  next_row-append q more y h =
      row_of-same 0 c.width (λ x. streamed gas c (collided_of (q ++ more)) x y) (λ x. streamed gas c (collided_of q) x y)
      (λ x _. streamed-local gas c (collided_of (q ++ more)) (collided_of q) x y
      (λ x' y' near. collided_of-append q more x' y' (omega arith)))

  take-next : (q : List (List ℕ)) (n : ℕ) → n ≤ c.height → take n (next gas c chi q) ≡ map (next_row q) (range_with_len 0 n)
  take-next q n h = take-map-range_with_len (next_row q) 0 c.height n h

  -- the rows of the next lattice before the last of q stay with more rows
  pub take-next-append : (q more : List (List ℕ)) (n : ℕ) → n + 1 ≤ length q → n ≤ c.height →
      take n (next gas c chi (q ++ more)) ≡ take n (next gas c chi q)
  take-next-append q more n within h =
      take-next (q ++ more) n h
      ∙ row_of-same [] n (next_row (q ++ more)) (next_row q) (λ y hy. next_row-append q more y (omega arith))
      ∙ sym (take-next q n h)

  -- with the row that follows row m of q, the next lattice's row m is known beside those before it
  pub take-next-push : (q : List (List ℕ)) (r : List ℕ) (m : ℕ) → length q ≡ m + 1 → length q < c.height →
      take (m + 1) (next gas c chi (q ++ r ∷ [])) ≡ take m (next gas c chi q) ++ next_row (q ++ r ∷ []) m ∷ []
  take-next-push q r m e h =
      take-next (q ++ r ∷ []) (m + 1) (omega arith)
      ∙ map-range_with_len_more (next_row (q ++ r ∷ [])) 0 m m (omega arith)
      ∙ ap (λ (l : List (List ℕ)). l ++ next_row (q ++ r ∷ []) m ∷ [])
      (sym (take-next (q ++ r ∷ []) m (omega arith)) ∙ take-next-append q (r ∷ []) m (omega arith) (omega arith))

  -- the bottom row is the last
  pub next-all : (q : List (List ℕ)) (m : ℕ) → m + 1 ≡ c.height → next gas c chi q ≡ take m (next gas c chi q) ++ next_row q m ∷ []
  next-all q m e =
      ap (λ n. map (next_row q) (range_with_len 0 n)) (sym e)
      ∙ map-range_with_len_more (next_row q) 0 m m (omega arith)
      ∙ ap (λ (l : List (List ℕ)). l ++ next_row q m ∷ []) (sym (take-next q m (omega arith)))

  pub length-next : (q : List (List ℕ)) → length (next gas c chi q) ≡ c.height
  length-next q = length-map-range_with_len (next_row q) 0 c.height
