-- Half units at a range, as a sum over the pairs of levels so far apart.
--   sum_at_range   the sum of f over the pairs lo, lo + k with lo below n
--   HasRangeSums   the half units at a range are that sum of the half units of the pairs
use Rattle.std.specs.Prelude.{◌≡◌, ℕ, zero, suc, ◌+◌, ◌<◌, List, All}
use Rattle.turning_points.specs.three_point.Run.{three_point, half_units}

abbrev pub sum_at_range : (ℕ → ℕ → ℕ) → ℕ → ℕ → ℕ
sum_at_range f k zero = 0
sum_at_range f k (suc n) = sum_at_range f k n + f n (n + k)

-- n is any number of lower levels that leaves out no pair
abbrev pub HasRangeSums : Type 0
HasRangeSums =
    (h : List ℕ) (k n : ℕ) → All (λ level. level < n + k) h → half_units h k ≡ sum_at_range (three_point h) k n
