-- The three-point count of ASTM E1049-85, 5.4.4 (rainflow counting), over the points of a history.
-- X is the range under consideration, Y the previous range adjacent to X, and S the starting point of the history.
--   CountedRange, counted_range   its two points, and one half unit for a half cycle or two for a cycle
--   live_after            the points that are live after the next point was read and steps 2 to 5 were taken
--   ranges_counted        the ranges that these steps count
--   ranges_left           the ranges that step 6 counts
--   run                   all ranges, in the order in which they are counted
--   half_units_of_pair    the half units of a pair in a list of ranges
--   half_units_at_range   the half units of all pairs in it that lie so far apart
--   three_point           the half units of a pair in a level history
--   half_units            the half units at a range in a level history
-- A list of live points has the newest first, and the oldest of them is S. The point z that was read last stands apart:
-- X is the range from y to z, where y is the newest live point, and Y the range from x to y.
use Rattle.std.specs.Prelude.{ℕ, ◌+◌, ◌-◌, nat_le, ◌==◌, if◌then◌else◌, List, [], ◌∷◌, ◌++◌}
use Rattle.turning_points.specs.Points.{points}
use Rattle.turning_points.specs.Pairs.{Pair, pair, range, is_pair}

-- half units of a pair of levels
pub record CountedRange : Type 0 where
  pub pair : Pair
  pub halves : ℕ

abbrev pub counted_range : ℕ → ℕ → ℕ → CountedRange
counted_range x y n = record { pair = pair x y; halves = n }

-- Step 2: with fewer than three points the next one is read. Step 3: so it is where X < Y. Steps 4 and 5, where X >= Y:
-- if Y contains S, as it does with three points, its first point is discarded and S moves to its second; otherwise both
-- points of Y are discarded.
abbrev pub live_after : ℕ → List ℕ → List ℕ
live_after z [] = z ∷ []
live_after z (y ∷ []) = z ∷ y ∷ []
live_after z (y ∷ x ∷ []) = if nat_le (range x y) (range y z) then z ∷ y ∷ [] else z ∷ y ∷ x ∷ []
live_after z (y ∷ x ∷ w ∷ live) =
    if nat_le (range x y) (range y z) then live_after z (w ∷ live) else z ∷ y ∷ x ∷ w ∷ live

-- Step 4 counts Y as one cycle, step 5, where Y contains S, as one half cycle.
abbrev pub ranges_counted : ℕ → List ℕ → List CountedRange
ranges_counted z [] = []
ranges_counted z (y ∷ []) = []
ranges_counted z (y ∷ x ∷ []) = if nat_le (range x y) (range y z) then counted_range x y 1 ∷ [] else []
ranges_counted z (y ∷ x ∷ w ∷ live) =
    if nat_le (range x y) (range y z) then counted_range x y 2 ∷ ranges_counted z (w ∷ live) else []

-- Step 6: each range not yet counted is one half cycle, the oldest first.
abbrev pub ranges_left : List ℕ → List CountedRange
ranges_left [] = []
ranges_left (y ∷ []) = []
ranges_left (y ∷ x ∷ live) = ranges_left (x ∷ live) ++ (counted_range x y 1 ∷ [])

-- Step 1: the next point is read; out of data, step 6 is taken.
abbrev pub run : List ℕ → List ℕ → List CountedRange
run live [] = ranges_left live
run live (z ∷ l) = ranges_counted z live ++ run (live_after z live) l

abbrev pub half_units_of_pair : ℕ → ℕ → List CountedRange → ℕ
half_units_of_pair lo hi [] = 0
half_units_of_pair lo hi (x ∷ xs) = (if is_pair lo hi x.pair then x.halves else 0) + half_units_of_pair lo hi xs

abbrev pub half_units_at_range : ℕ → List CountedRange → ℕ
half_units_at_range k [] = 0
half_units_at_range k (x ∷ xs) = (if k == x.pair.hi - x.pair.lo then x.halves else 0) + half_units_at_range k xs

abbrev pub three_point : List ℕ → ℕ → ℕ → ℕ
three_point h lo hi = half_units_of_pair lo hi (run [] (points h))

abbrev pub half_units : List ℕ → ℕ → ℕ
half_units h k = half_units_at_range k (run [] (points h))
