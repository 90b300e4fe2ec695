-- Lattices stay lattices: the empty one, one with other sets in a row, and one with a cell made solid.
use Rattle.std.proofs.Common.{◌≡◌, ◌≢◌, ℕ, ◌<◌, ◌≤◌, ◌^◌, Bool, true, false, List, [], length, replicate, get_or, set, ap, ◌∙◌, sym, subst, refl, arith, if◌then◌else◌, ⊎_elim}
use Rattle.std.proofs.lemmas.Bool.{cases_eq, cases_lt}
use Rattle.std.proofs.lemmas.List.{get_or-replicate, get_or_past, length-replicate, get_or-set_same, get_or-set_other, length-set, set_past, places}
use Rattle.std.proofs.lemmas.List.FromFn.{get_or-map-range_with_len, length-map-range_with_len}
use Rattle.std.proofs.lemmas.Nat.{pow_pos}
use Rattle.gas_geom.specs.Gas.{Rules}
use Rattle.gas_geom.specs.Channel.{ChannelModel, is_solid}
use Rattle.gas_geom.specs.Lattice.{IsLattice, cell, empty_lattice, row_of, with_cell}

-- every cell of the empty lattice is empty
cell-empty : (width height x y : ℕ) → cell (replicate height (replicate width 0)) x y ≡ 0
cell-empty width height x y = grind (arith, places)

pub IsLattice-empty : (gas : Rules) (channel : ChannelModel) → IsLattice gas channel (empty_lattice channel).rows
IsLattice-empty gas channel = record {
  high = length-replicate channel.height (replicate channel.width 0);
  wide = λ y h.
      ap length (get_or-replicate {A = List ℕ} channel.height y (replicate channel.width 0) [] h) ∙ length-replicate {A = ℕ} channel.width 0;
  sets = λ x y. subst (λ s. s < 2 ^ gas.dirs) (sym (cell-empty channel.width channel.height x y)) (pow_pos gas.dirs);
  empty = λ x y h. cell-empty channel.width channel.height x y;
}

-- another row, and other solid cells in it, which are empty
IsLattice-with_row : (gas : Rules) (channel : ChannelModel) (solid : List (List Bool)) (rows : List (List ℕ)) (y : ℕ) (row : List ℕ) →
    IsLattice gas channel rows → y < channel.height → length row ≡ channel.width → ((x : ℕ) → get_or row x 0 < 2 ^ gas.dirs) →
    ((u v : ℕ) → v ≢ y → is_solid (record channel { solid = solid }) u v ≡ is_solid channel u v) →
    ((x : ℕ) → is_solid (record channel { solid = solid }) x y ≡ true → get_or row x 0 ≡ 0) →
    IsLattice gas (record channel { solid = solid }) (set rows y row)
IsLattice-with_row gas channel solid rows y row is iny as_wide small same_solid stays_empty = record {
  high = length-set rows y row ∙ is.high;
  wide = λ v inv. ⊎_elim
      (λ (e : v ≡ y). ap (λ k. length (get_or (set rows y row) k [])) e ∙ ap length here ∙ as_wide)
      (λ (ne : v ≢ y). ap length (get_or-set_other rows y v row [] ne) ∙ is.wide v inv)
      (cases_eq v y);
  sets = λ u v. ⊎_elim
      (λ (e : v ≡ y). subst (λ s. s < 2 ^ gas.dirs) (sym (same u v e)) (small u))
      (λ (ne : v ≢ y). subst (λ s. s < 2 ^ gas.dirs) (sym (other u v ne)) (is.sets u v))
      (cases_eq v y);
  empty = λ u v there. ⊎_elim
      (λ (e : v ≡ y). same u v e ∙ stays_empty u (ap (λ k. is_solid (record channel { solid = solid }) u k) (sym e) ∙ there))
      (λ (ne : v ≢ y). other u v ne ∙ is.empty u v (sym (same_solid u v ne) ∙ there))
      (cases_eq v y);
}
  where
    here : get_or (set rows y row) y [] ≡ row
    here = get_or-set_same rows y row [] (omega (arith, is.high))

    same : (u v : ℕ) → v ≡ y → cell (set rows y row) u v ≡ get_or row u 0
    same u v e = ap (λ k. cell (set rows y row) u k) e ∙ ap (λ (r : List ℕ). get_or r u 0) here

    other : (u v : ℕ) → v ≢ y → cell (set rows y row) u v ≡ cell rows u v
    other u v ne = ap (λ (r : List ℕ). get_or r u 0) (get_or-set_other rows y v row [] ne)

-- states for the fluid cells of a row, and 0 for the solid ones
abbrev pub fluid_state : ChannelModel → ℕ → List ℕ → ℕ → ℕ
fluid_state channel y states x = if is_solid channel x y then 0 else get_or states x 0

-- 0, or a state, by whether a cell is solid
if_small : (b : Bool) (s n : ℕ) → 0 < n → s < n → (if b then 0 else s) < n
if_small true s n some small = some
if_small false s n some small = small

pub IsLattice-with_states : (gas : Rules) (channel : ChannelModel) (rows : List (List ℕ)) (y : ℕ) (states : List ℕ) →
    IsLattice gas channel rows → y < channel.height → ((x : ℕ) → get_or states x 0 < 2 ^ gas.dirs) →
    IsLattice gas channel (set rows y (row_of channel.width (fluid_state channel y states)))
IsLattice-with_states gas channel rows y states is iny small =
    IsLattice-with_row gas channel channel.solid rows y row is iny (length-map-range_with_len at 0 channel.width)
    (λ x. ⊎_elim
    (λ (h : x < channel.width). subst (λ s. s < 2 ^ gas.dirs) (sym (within x h)) (if_small (is_solid channel x y) (get_or states x 0) (2 ^ gas.dirs) (pow_pos gas.dirs) (small x)))
    (λ (h : channel.width ≤ x). subst (λ s. s < 2 ^ gas.dirs) (sym (past x h)) (pow_pos gas.dirs))
    (cases_lt x channel.width))
    (λ u v ne. refl)
    (λ x solid. ⊎_elim
    (λ (h : x < channel.width). within x h ∙ ap (λ (b : Bool). if b then 0 else get_or states x 0) solid)
    (λ (h : channel.width ≤ x). past x h)
    (cases_lt x channel.width))
  where
    at : ℕ → ℕ
    at = fluid_state channel y states

    row : List ℕ
    row = row_of channel.width at

    within : (x : ℕ) → x < channel.width → get_or row x 0 ≡ fluid_state channel y states x
    within x h = get_or-map-range_with_len at 0 channel.width x x 0 h (omega arith)

    past : (x : ℕ) → channel.width ≤ x → get_or row x 0 ≡ 0
    past x h = get_or_past row x 0 (omega (arith, length-map-range_with_len at 0 channel.width))

-- a cell made solid and empty
pub IsLattice-with_solid : (gas : Rules) (channel : ChannelModel) (rows : List (List ℕ)) (x y : ℕ) →
    IsLattice gas channel rows → x < channel.width → y < channel.height →
    IsLattice gas (record channel { solid = with_cell channel.solid x y true }) (with_cell rows x y 0)
IsLattice-with_solid gas channel rows x y is inx iny =
    IsLattice-with_row gas channel (set channel.solid y changed) rows y emptied is iny (length-set row x 0 ∙ is.wide y iny)
    (λ u. ⊎_elim
    (λ (e : u ≡ x). subst (λ s. s < 2 ^ gas.dirs) (sym (here u e)) (pow_pos gas.dirs))
    (λ (ne : u ≢ x). subst (λ s. s < 2 ^ gas.dirs) (sym (get_or-set_other row x u 0 0 ne)) (is.sets u y))
    (cases_eq u x))
    (λ u v ne. ap (λ (r : List Bool). get_or r u false) (get_or-set_other channel.solid y v changed [] ne))
    (λ u there. ⊎_elim
    (λ (e : u ≡ x). here u e)
    (λ (ne : u ≢ x). get_or-set_other row x u 0 0 ne ∙ is.empty u y (sym (same_solid u ne) ∙ there))
    (cases_eq u x))
  where
    row : List ℕ
    row = get_or rows y []

    emptied : List ℕ
    emptied = set row x 0

    changed : List Bool
    changed = set (get_or channel.solid y []) x true

    here : (u : ℕ) → u ≡ x → get_or emptied u 0 ≡ 0
    here u e = ap (λ k. get_or emptied k 0) e ∙ get_or-set_same row x 0 0 (omega (arith, is.wide y iny))

    same_solid : (u : ℕ) → u ≢ x → is_solid (record channel { solid = with_cell channel.solid x y true }) u y ≡ is_solid channel u y
    same_solid u ne = ⊎_elim
        (λ (there : y < length channel.solid).
        ap (λ (r : List Bool). get_or r u false) (get_or-set_same channel.solid y changed [] there)
        ∙ get_or-set_other (get_or channel.solid y []) x u true false ne)
        (λ (past : length channel.solid ≤ y).
        ap (λ (s : List (List Bool)). get_or (get_or s y []) u false) (set_past channel.solid y changed past))
        (cases_lt y (length channel.solid))
