-- The rainflow count of a history that repeats (ASTM E1049-85, 5.4.5), over levels: the history is arranged to begin
-- and to end with its greatest peak, and then full cycles alone are counted. X is the range under consideration, and Y
-- the previous range adjacent to X.
--   greatest_level         the greatest level
--   from_first             the levels from the first of this level on
--   before_first           those before it
--   history_from_greatest  the history arranged so
--   live_after_cycles      the points that are live after the next point was read and its steps were taken
--   cycles_closed          the cycles that these steps count
--   cycle_run              all cycles, in the order in which they are counted
--   repeating_cycles       the cycles of a pair in a history
--   AddsItsCycles          a history that is put behind itself counts two half units more for each of these cycles
--   ClosesFromResult       the cycles are those of a four-point result, and those of its residue put behind itself
-- A list of live points has the newest first. The point z that was read last stands apart: X is the range from y to z,
-- where y is the newest live point, and Y the range from x to y.
use Rattle.std.specs.Prelude.{◌≡◌, ℕ, ◌+◌, ◌*◌, nat_le, ◌==◌, if◌then◌else◌, max, List, [], ◌∷◌, ◌++◌}
use Rattle.turning_points.specs.Points.{points}
use Rattle.turning_points.specs.Pairs.{Pair, pair, range}
use Rattle.turning_points.specs.three_point.Run.{three_point}
use Rattle.four_point.specs.Reduction.{IsFourPointResult, count_in}

abbrev pub greatest_level : List ℕ → ℕ
greatest_level [] = 0
greatest_level (x ∷ h) = max x (greatest_level h)

abbrev pub from_first : ℕ → List ℕ → List ℕ
from_first m [] = []
from_first m (x ∷ h) = if x == m then x ∷ h else from_first m h

abbrev pub before_first : ℕ → List ℕ → List ℕ
before_first m [] = []
before_first m (x ∷ h) = if x == m then [] else x ∷ before_first m h

-- From the first greatest level to the end, then from the beginning to that level.
abbrev pub history_from_greatest : List ℕ → List ℕ
history_from_greatest [] = []
history_from_greatest (x ∷ h) =
    let m = greatest_level (x ∷ h) in
    from_first m (x ∷ h) ++ (before_first m (x ∷ h) ++ (m ∷ []))

-- Step 2: with fewer than three points the next one is read. Step 3: so it is where X < Y. Step 4, where X >= Y: the
-- two points of Y are discarded, and step 2 follows again.
abbrev pub live_after_cycles : ℕ → List ℕ → List ℕ
live_after_cycles z [] = z ∷ []
live_after_cycles z (y ∷ []) = z ∷ y ∷ []
live_after_cycles z (y ∷ x ∷ live) =
    if nat_le (range x y) (range y z) then live_after_cycles z live else z ∷ y ∷ x ∷ live

-- Step 4 counts Y as one cycle.
abbrev pub cycles_closed : ℕ → List ℕ → List Pair
cycles_closed z [] = []
cycles_closed z (y ∷ []) = []
cycles_closed z (y ∷ x ∷ live) = if nat_le (range x y) (range y z) then pair x y ∷ cycles_closed z live else []

-- Step 1: the next point is read; out of data, nothing more is counted.
abbrev pub cycle_run : List ℕ → List ℕ → List Pair
cycle_run live [] = []
cycle_run live (z ∷ l) = cycles_closed z live ++ cycle_run (live_after_cycles z live) l

abbrev pub repeating_cycles : List ℕ → ℕ → ℕ → ℕ
repeating_cycles h lo hi = count_in lo hi (cycle_run [] (points (history_from_greatest h)))

abbrev pub AddsItsCycles : Type 0
AddsItsCycles =
    (h : List ℕ) (lo hi : ℕ) → three_point (h ++ h) lo hi ≡ three_point h lo hi + 2 * repeating_cycles h lo hi

-- The residue put behind itself has itself for its residue.
abbrev pub ClosesFromResult : Type 0
ClosesFromResult = (h : List ℕ) (c d : ℕ → ℕ → ℕ) (r q : List ℕ) → IsFourPointResult (points h) c r
    → IsFourPointResult (points (r ++ r)) d q → (q ≡ r) × ((lo hi : ℕ) → repeating_cycles h lo hi ≡ c lo hi + d lo hi)
