-- Inner words: what functions of this crate promise one another. No public contract cites them.
-- Here: rectangles that fit, and rectangles by their first rows.
use Rattle.std.specs.Global.{Global}
use Rattle.std.specs.Prelude.{◌≡◌, ℕ, zero, suc, ◌+◌, ◌*◌, ◌/◌, ◌≤◌, ◌&&◌, ◌||◌, Bool, false, List, [], All, length, map, Vec, nat_le, nat_lt, nat_abs, slice_index, slice_index_or, pos, ◌+ℤ◌, ◌≤ℤ◌}
use Rattle.std.specs.List.{list_any}
use Rattle.gas_geom.specs.declared.size.TheConstants.{MOST_SIDE}
use Rattle.gas_layout.specs.declared.area.Rectangle.{Rectangle}
use Rattle.gas_layout.specs.declared.drawing.Strip.{Strip}
use Rattle.gas_layout.specs.declared.drawing.Skyline.{Skyline}

-- a rectangle with cells, all of them in an area of this size
pub record IsInside (width height : ℕ) (r : Rectangle) : Type 0 where
  pub left : pos 0 ≤ℤ r.x
  pub wide : pos 1 ≤ℤ r.width
  pub right : (r.x +ℤ r.width) ≤ℤ pos width
  pub top : pos 0 ≤ℤ r.y
  pub high : pos 1 ≤ℤ r.height
  pub bottom : (r.y +ℤ r.height) ≤ℤ pos height

-- columns of a row of this width
pub record IsStrip (width : ℕ) (s : Strip) : Type 0 where
  pub ordered : s.start ≤ s.end
  pub within : s.end ≤ width

-- the strip of a rectangle, and its first row
abbrev pub strip_of : Rectangle → Strip
strip_of r = record {
  start = nat_abs r.x;
  end = nat_abs (r.x +ℤ r.width);
  bottom = nat_abs (r.y +ℤ r.height);
}

abbrev pub first_row : Rectangle → ℕ
first_row r = nat_abs r.y

-- whether a strip covers the cell (x, y), if it starts in its row or above
abbrev pub reaches : Strip → ℕ → ℕ → Bool
reaches s x y = (nat_le s.start x && nat_lt x s.end) && nat_lt y s.bottom

-- whether the skyline of column x is below row y
abbrev pub passes : Skyline → ℕ → ℕ → Bool
passes s x y =
    nat_lt y (slice_index s.columns.items x) || nat_lt y (slice_index s.bands.items (x / 256))

-- a number for each of at most MOST_SIDE columns, and for each of their bands
pub record IsSkyline (width : ℕ) (s : Skyline) : Type 0 where
  pub columns : length s.columns.items ≡ width
  pub few : width ≤ MOST_SIDE
  pub bands : width ≤ 256 * length s.bands.items

-- the strips of each row
abbrev pub strips_of : List (Vec Strip Global) → List (List Strip)
strips_of rows = map (λ v. v.items) rows

-- strips of rows of this width
abbrev pub AreStrips : ℕ → List (List Strip) → Type 0
AreStrips width rows = (y : ℕ) → All (λ s. IsStrip width s) (slice_index_or rows y [])

-- whether one of the strips that start in the first n rows reaches the cell (x, y)
abbrev pub is_reached : List (List Strip) → ℕ → ℕ → ℕ → Bool
is_reached rows zero x y = false
is_reached rows (suc n) x y =
    is_reached rows n x y || list_any (λ s. reaches s x y) (slice_index_or rows n [])

-- whether one of the strips covers the cell (x, y)
abbrev pub is_drawn : List (List Strip) → ℕ → ℕ → Bool
is_drawn rows x y = is_reached rows (y + 1) x y
