-- Simple ranges, peaks and valleys of a list of points (ASTM E1049-85, 5.3 and 5.2).
--   ranges_at        how many neighbours are k apart
--   peaks_at         how many inner levels at l, at or above the reference, are greater than both neighbours
--   valleys_at       how many inner levels at l, below the reference, are less than both neighbours
--   SimpleValue      what contracts see of a `Simple`: the ranges but the last, which may still grow, and one table for
--                    peaks and valleys
--   range_count, peak_count, valley_count   what the readers tell
--   IsSimple         what holds of every `Simple`
--   CountsHistory    a value stands for a history
--   push_of, join_of   a value after one level more, and two values one after the other
use Rattle.std.specs.Prelude.{◌≡◌, ℕ, ◌+◌, ◌-◌, ◌<◌, ◌≤◌, Bool, ◌&&◌, ◌||◌, nat_lt, nat_le, ◌==◌, if◌then◌else◌, List, [], ◌∷◌, length, slice_index, sum, take, replicate}
use Rattle.turning_points.specs.Points.{is_turn, points}
use Rattle.turning_points.specs.Pairs.{range}
use Rattle.turning_points.specs.EndPoints.{EndPoints, IsEnds, ends_of, ends_push, ends_of_both, no_ends, ends_prepend}
use Rattle.simple_counts.specs.level_crossing.Extremes.{extremes_at, is_extreme, triples}
use Rattle.tally.specs.tables.Tables.{sum_of_tables, is_at, lower, raise}
use Rattle.calibration.specs.declared.grid.TheConstants.{MIN_CLASSES, MAX_CLASSES}
use Rattle.turning_points.specs.declared.ends.TheConstants.{MAX_POINTS}

abbrev pub ranges_at : ℕ → List ℕ → ℕ
ranges_at k [] = 0
ranges_at k (x ∷ []) = 0
ranges_at k (x ∷ y ∷ l) = is_at k (range x y) + ranges_at k (y ∷ l)

abbrev pub peaks_at : ℕ → ℕ → List ℕ → ℕ
peaks_at r l [] = 0
peaks_at r l (x ∷ []) = 0
peaks_at r l (x ∷ y ∷ []) = 0
peaks_at r l (x ∷ y ∷ z ∷ p) =
    (if y == l && nat_le r l && (nat_lt x y && nat_lt z y) then 1 else 0) + peaks_at r l (y ∷ z ∷ p)

abbrev pub valleys_at : ℕ → ℕ → List ℕ → ℕ
valleys_at r l [] = 0
valleys_at r l (x ∷ []) = 0
valleys_at r l (x ∷ y ∷ []) = 0
valleys_at r l (x ∷ y ∷ z ∷ p) =
    (if y == l && nat_lt l r && (nat_lt y x && nat_lt y z) then 1 else 0) + valleys_at r l (y ∷ z ∷ p)

-- the ranges but the last
abbrev pub decided_at : ℕ → List ℕ → ℕ
decided_at k l = triples (λ x y z. is_at k (range x y)) l

-- the last range
abbrev pub open_at : ℕ → EndPoints → ℕ
open_at k e = if nat_le 2 e.points then is_at k (range e.before e.last) else 0

pub record SimpleValue : Type 0 where
  pub classes : ℕ
  pub reference : ℕ
  pub ends : EndPoints
  pub decided : List ℕ
  pub extremes : List ℕ

abbrev pub nothing : ℕ → ℕ → SimpleValue
nothing k r = record { classes = k; reference = r; ends = no_ends; decided = replicate k 0; extremes = replicate k 0 }

abbrev pub range_count : SimpleValue → ℕ → ℕ
range_count v k = slice_index v.decided k + open_at k v.ends

abbrev pub peak_count : SimpleValue → ℕ → ℕ
peak_count v l = if nat_le v.reference l then slice_index v.extremes l else 0

abbrev pub valley_count : SimpleValue → ℕ → ℕ
valley_count v l = if nat_le v.reference l then 0 else slice_index v.extremes l

-- tables agree with ends, over what another part has in them: the sums, and the first range is counted besides
pub record Agrees (sum_a sum_b : ℕ) (a : ℕ → ℕ) (e : EndPoints) (decided extremes : List ℕ) : Type 0 where
  pub sum_of : sum decided ≡ sum_a + (e.points - 2)
  pub first : 3 ≤ e.points → a (range e.first e.second) + 1 ≤ slice_index decided (range e.first e.second)
  pub above : (k : ℕ) → a k ≤ slice_index decided k
  pub few : sum extremes ≤ sum_b + (e.points - 2)

abbrev pub none_at : ℕ → ℕ
none_at k = 0

pub record IsSimple (v : SimpleValue) : Type 0 where
  pub classes : (MIN_CLASSES ≤ v.classes) × (v.classes ≤ MAX_CLASSES)
  pub reference : (1 ≤ v.reference) × (v.reference < v.classes)
  pub decided : length v.decided ≡ v.classes
  pub extremes : length v.extremes ≡ v.classes
  pub ends : IsEnds v.classes v.ends
  pub agrees : Agrees 0 0 none_at v.ends v.decided v.extremes
  pub few : v.ends.points ≤ MAX_POINTS
  -- neighbouring points differ, so no range is 0
  pub none_at_zero : slice_index v.decided 0 ≡ 0

pub record CountsHistory (v : SimpleValue) (h : List ℕ) : Type 0 where
  pub ends : v.ends ≡ ends_of (points h)
  pub decided : (k : ℕ) → k < v.classes → slice_index v.decided k ≡ decided_at k (points h)
  pub extremes : (l : ℕ) → l < v.classes → slice_index v.extremes l ≡ extremes_at v.reference l (points h)

-- the tables after the level x was put before
abbrev pub decide : ℕ → EndPoints → List ℕ → List ℕ
decide x e t =
    if nat_lt e.points 2 || x == e.first then t
    else if is_turn x e.first e.second then raise t (range x e.first)
    else if e.points == 2 then t
    else raise (lower t (range e.first e.second)) (range x e.second)

abbrev pub mark : ℕ → ℕ → EndPoints → List ℕ → List ℕ
mark r x e t =
    if nat_lt e.points 2 || x == e.first then t else if is_extreme r x e.first e.second then raise t e.first else t

-- the tables of two parts, one after the other, where d and m are those of both added
abbrev pub decide_join : EndPoints → EndPoints → List ℕ → List ℕ
decide_join e f d = if e.points == 0 then d else if e.points == 1 then decide e.last f d
    else decide e.before (ends_prepend e.last f) (decide e.last f d)

abbrev pub mark_join : ℕ → EndPoints → EndPoints → List ℕ → List ℕ
mark_join r e f m = if e.points == 0 then m else if e.points == 1 then mark r e.last f m
    else mark r e.before (ends_prepend e.last f) (mark r e.last f m)

abbrev pub join_of : SimpleValue → SimpleValue → SimpleValue
join_of s t = record {
  classes = s.classes;
  reference = s.reference;
  ends = ends_of_both s.ends t.ends;
  decided = decide_join s.ends t.ends (sum_of_tables s.decided t.decided);
  extremes = mark_join s.reference s.ends t.ends (sum_of_tables s.extremes t.extremes);
}

abbrev pub turns_at : ℕ → EndPoints → Bool
turns_at x e = nat_le 2 e.points && is_turn e.before e.last x

abbrev pub push_of : ℕ → SimpleValue → SimpleValue
push_of x v = record {
  classes = v.classes;
  reference = v.reference;
  ends = ends_push x v.ends;
  decided = if turns_at x v.ends then raise v.decided (range v.ends.before v.ends.last) else v.decided;
  extremes = if nat_le 2 v.ends.points && is_extreme v.reference v.ends.before v.ends.last x
      then raise v.extremes v.ends.last else v.extremes;
}

-- the value with the ends of a list and these tables
abbrev pub value_of : ℕ → ℕ → List ℕ → List ℕ → List ℕ → SimpleValue
value_of k r l d m = record { classes = k; reference = r; ends = ends_of l; decided = d; extremes = m }

-- the tables of the first n points of a list
pub record OfFront (k r : ℕ) (l : List ℕ) (n : ℕ) (d m : List ℕ) : Type 0 where
  pub rules : IsSimple (value_of k r (take n l) d m)
  pub counts : CountsHistory (value_of k r (take n l) d m) (take n l)

-- a table of the extremes of the points l, with a place for each level below k
pub record AreExtremes (k r : ℕ) (l m : List ℕ) : Type 0 where
  pub places : length m ≡ k
  pub each : (i : ℕ) → i < k → slice_index m i ≡ extremes_at r i l

-- d is the table of the ranges of the points l: about any reference, it makes the tables of l with those extremes
pub record HasRanges (k : ℕ) (l d : List ℕ) : Type 0 where
  pub fills : (r : ℕ) (m : List ℕ) → (1 ≤ r) × (r < k) → AreExtremes k r l m → OfFront k r l (length l) d m

-- the peaks, the valleys and the ranges of a history are those of its points
pub record SameCounts (h g : List ℕ) : Type 0 where
  pub peaks : (r l : ℕ) → peaks_at r l (points g) ≡ peaks_at r l (points h)
  pub valleys : (r l : ℕ) → valleys_at r l (points g) ≡ valleys_at r l (points h)
  pub ranges : (k : ℕ) → ranges_at k (points g) ≡ ranges_at k (points h)

abbrev pub AreOfPoints : Type 0
AreOfPoints = (h : List ℕ) → SameCounts h (points h)
