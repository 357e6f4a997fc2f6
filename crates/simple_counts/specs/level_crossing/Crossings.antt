-- Level crossings (ASTM E1049-85, 5.1): how often a history crosses a boundary in the counted direction, upwards from
-- the reference on and downwards below it. Boundary l lies below level l.
--   step_crossings    1 where the step from x to y crosses boundary l
--   crossings         how often a history does
--   CrossingsValue    what contracts see of a `Crossings`: its first and last level, and the counts as differences of
--                     two sums
--   crossing_count    the count of a boundary
--   IsCrossings       what holds of every `Crossings`
--   Crosses           a value stands for a history
--   CrossesPoints     a value has the counts of a list of points
--   push_of, join_of  a value after one level more, and two values one after the other
use Rattle.std.specs.Prelude.{◌≡◌, ℕ, ◌+◌, ◌-◌, ◌<◌, ◌≤◌, Bool, true, false, ◌&&◌, ◌||◌, nat_lt, nat_le, if◌then◌else◌, List, [], ◌∷◌, length, take, sum, replicate, max, min}
use Rattle.turning_points.specs.Points.{points}
use Rattle.turning_points.specs.EndPoints.{last_point}
use Rattle.tally.specs.tables.Tables.{raise, sum_of_tables}
use Rattle.calibration.specs.declared.grid.TheConstants.{MIN_CLASSES, MAX_CLASSES}
use Rattle.turning_points.specs.declared.ends.TheConstants.{MAX_POINTS}

abbrev pub step_crossings : ℕ → ℕ → ℕ → ℕ → ℕ
step_crossings r l x y =
    if nat_le r l then (if nat_lt x l && nat_le l y then 1 else 0) else (if nat_le l x && nat_lt y l then 1 else 0)

abbrev pub crossings : ℕ → ℕ → List ℕ → ℕ
crossings r l [] = 0
crossings r l (x ∷ []) = 0
crossings r l (x ∷ y ∷ h) = step_crossings r l x y + crossings r l (y ∷ h)

abbrev pub start_level : List ℕ → ℕ
start_level [] = 0
start_level (x ∷ h) = x

abbrev pub has_level : List ℕ → Bool
has_level [] = false
has_level (x ∷ h) = true

pub record CrossingsValue : Type 0 where
  pub classes : ℕ
  pub reference : ℕ
  pub some : Bool
  pub first : ℕ
  pub last : ℕ
  pub begins : List ℕ
  pub stops : List ℕ

abbrev pub no_crossings : ℕ → ℕ → CrossingsValue
no_crossings k r = record {
  classes = k;
  reference = r;
  some = false;
  first = 0;
  last = 0;
  begins = replicate (k + 1) 0;
  stops = replicate (k + 1) 0;
}

-- the runs over a boundary: those that begin at or below it, less those that stop there
abbrev pub crossing_count : CrossingsValue → ℕ → ℕ
crossing_count v l = sum (take (l + 1) v.begins) - sum (take (l + 1) v.stops)

-- no sum of stops passes the sum of what began before
pub record IsCrossings (v : CrossingsValue) : Type 0 where
  pub classes : (MIN_CLASSES ≤ v.classes) × (v.classes ≤ MAX_CLASSES)
  pub reference : (1 ≤ v.reference) × (v.reference < v.classes)
  pub begins : length v.begins ≡ v.classes + 1
  pub stops : length v.stops ≡ v.classes + 1
  pub first : v.first < v.classes
  pub last : v.last < v.classes
  pub enough : (i : ℕ) → sum (take (i + 1) v.stops) ≤ sum (take i v.begins)
  pub few : (i : ℕ) → sum (take (i + 1) v.begins) ≤ MAX_POINTS + sum (take (i + 1) v.stops)

pub record Crosses (v : CrossingsValue) (h : List ℕ) : Type 0 where
  pub some : v.some ≡ has_level h
  pub first : v.first ≡ start_level h
  pub last : v.last ≡ last_point h
  pub counts : (l : ℕ) → 1 ≤ l → l < v.classes → crossing_count v l ≡ crossings v.reference l h

-- it has the grid, the ends and the counts of the points p
pub record CrossesPoints (v : CrossingsValue) (classes reference : ℕ) (p : List ℕ) : Type 0 where
  pub grid : (v.classes ≡ classes) × (v.reference ≡ reference)
  pub some : v.some ≡ has_level p
  pub first : v.first ≡ start_level p
  pub last : v.last ≡ last_point p
  pub counts : (l : ℕ) → crossing_count v l ≡ crossings reference l p

-- the step from x to y crosses the boundaries from the lowest to the highest, and none where they lie the other way
abbrev pub lowest_boundary : ℕ → ℕ → ℕ → ℕ
lowest_boundary r x y = if nat_lt x y then max (x + 1) r else y + 1

abbrev pub highest_boundary : ℕ → ℕ → ℕ → ℕ
highest_boundary r x y = if nat_lt x y then y else min x (r - 1)

-- the tables after the step from x to y, if there is one
abbrev pub begin_step : Bool → ℕ → ℕ → ℕ → List ℕ → List ℕ
begin_step b r x y t =
    if b && nat_le (lowest_boundary r x y) (highest_boundary r x y) then raise t (lowest_boundary r x y) else t

abbrev pub stop_step : Bool → ℕ → ℕ → ℕ → List ℕ → List ℕ
stop_step b r x y t =
    if b && nat_le (lowest_boundary r x y) (highest_boundary r x y) then raise t (highest_boundary r x y + 1) else t

-- the crossings of the step that joins two levels, if there is one
abbrev pub joint_crossings : Bool → ℕ → ℕ → ℕ → ℕ → ℕ
joint_crossings b r l x y = if b then step_crossings r l x y else 0

abbrev pub push_of : ℕ → CrossingsValue → CrossingsValue
push_of x v = record {
  classes = v.classes;
  reference = v.reference;
  some = true;
  first = if v.some then v.first else x;
  last = x;
  begins = begin_step v.some v.reference v.last x v.begins;
  stops = stop_step v.some v.reference v.last x v.stops;
}

abbrev pub join_of : CrossingsValue → CrossingsValue → CrossingsValue
join_of v w = record {
  classes = v.classes;
  reference = v.reference;
  some = v.some || w.some;
  first = if v.some then v.first else w.first;
  last = if w.some then w.last else v.last;
  begins = begin_step (v.some && w.some) v.reference v.last w.first (sum_of_tables v.begins w.begins);
  stops = stop_step (v.some && w.some) v.reference v.last w.first (sum_of_tables v.stops w.stops);
}

-- the crossings of a history are those of its points
abbrev pub AreOfPoints : Type 0
AreOfPoints = (r l : ℕ) (h : List ℕ) → crossings r l (points h) ≡ crossings r l h
