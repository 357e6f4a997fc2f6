-- Half units by pair, with one range more.
--   half_units_of_pair-pushed   a range counts for its own pair
--   half_units_of_pair-level    and where it lies between equal levels, for no pair of different ones
use Rattle.std.proofs.Common.{◌≡◌, ℕ, ◌+◌, ◌<◌, ◌≤◌, if◌then◌else◌, List, [], ◌∷◌, ◌++◌, arith}
use Rattle.std.proofs.lemmas.Bool.Decides.{nat_tests}
use Rattle.turning_points.specs.Pairs.{Pair, is_pair}
use Rattle.turning_points.specs.three_point.Run.{CountedRange, half_units_of_pair}

pub half_units_of_pair-pushed : (lo hi : ℕ) (l : List CountedRange) (r : CountedRange) →
    half_units_of_pair lo hi (l ++ r ∷ []) ≡ half_units_of_pair lo hi l + (if is_pair lo hi r.pair then r.halves else 0)
half_units_of_pair-pushed lo hi [] r = omega arith
half_units_of_pair-pushed lo hi (x ∷ l) r = omega (arith, half_units_of_pair-pushed lo hi l r)

no_pair : (lo hi n : ℕ) (x : Pair) → lo < hi → x.hi ≤ x.lo → (if is_pair lo hi x then n else 0) ≡ 0
no_pair lo hi n x h e = grind (arith, nat_tests)

pub half_units_of_pair-level : (lo hi : ℕ) (l : List CountedRange) (r : CountedRange) → lo < hi → r.pair.hi ≤ r.pair.lo →
    half_units_of_pair lo hi (l ++ r ∷ []) ≡ half_units_of_pair lo hi l
half_units_of_pair-level lo hi l r h e = omega (arith, half_units_of_pair-pushed lo hi l r, no_pair lo hi r.halves r.pair h e)
