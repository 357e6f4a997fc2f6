-- The half units at a range are a sum over pairs. The idea: one range counts at its length, and there at its lower level alone.
use Rattle.std.proofs.Common.{◌≡◌, ℕ, zero, suc, ◌+◌, ◌-◌, ◌*◌, ◌<◌, ◌≤◌, ◌==◌, ◌&&◌, if◌then◌else◌, List, [], ◌∷◌, refl, arith}
use Rattle.std.specs.Prelude.{All, nat_lt}
use Rattle.std.proofs.lemmas.Bool.Decides.{nat_tests}
use Rattle.std.proofs.lemmas.List.Elements.{All-nil, All-head, All-tail}
use Rattle.turning_points.specs.Points.{points}
use Rattle.turning_points.specs.Pairs.{Pair, is_pair}
use Rattle.turning_points.proofs.Levels.{All-points}
use Rattle.turning_points.specs.three_point.Run.{CountedRange, run, half_units_of_pair, half_units_at_range}
use Rattle.turning_points.specs.three_point.Bounds.{IsWithin}
use Rattle.turning_points.specs.three_point.Sums.{sum_at_range, HasRangeSums}
use Rattle.turning_points.proofs.on_three_point.Bounds.{run_within}

-- sums add up term by term
pub sum_at_range-added : (f g : ℕ → ℕ → ℕ) (k n : ℕ) →
    sum_at_range (λ lo hi. f lo hi + g lo hi) k n ≡ sum_at_range f k n + sum_at_range g k n
sum_at_range-added f g k zero = refl
sum_at_range-added f g k (suc n) = omega (arith, sum_at_range-added f g k n)

pub sum_at_range-zero : (k n : ℕ) → sum_at_range (λ lo hi. 0) k n ≡ 0
sum_at_range-zero k zero = refl
sum_at_range-zero k (suc n) = omega (arith, sum_at_range-zero k n)

pub sum_at_range-same : (f g : ℕ → ℕ → ℕ) (k n : ℕ) → ((lo hi : ℕ) → f lo hi ≡ g lo hi) → sum_at_range f k n ≡ sum_at_range g k n
sum_at_range-same f g k zero e = refl
sum_at_range-same f g k (suc n) e = omega (arith, sum_at_range-same f g k n e, e n (n + k))

pub sum_at_range-le : (f g : ℕ → ℕ → ℕ) (k n : ℕ) → ((lo hi : ℕ) → f lo hi ≤ g lo hi) → sum_at_range f k n ≤ sum_at_range g k n
sum_at_range-le f g k zero h = omega arith
sum_at_range-le f g k (suc n) h = omega (arith, sum_at_range-le f g k n h, h n (n + k))

pub sum_at_range-doubled : (f : ℕ → ℕ → ℕ) (k n : ℕ) → sum_at_range (λ lo hi. 2 * f lo hi) k n ≡ 2 * sum_at_range f k n
sum_at_range-doubled f k zero = refl
sum_at_range-doubled f k (suc n) = omega (arith, sum_at_range-doubled f k n)

-- one range, over the first n lower levels
term : (halves k n : ℕ) (x : Pair) → x.lo ≤ x.hi →
    (if k == x.hi - x.lo && nat_lt x.lo n then halves else 0) + (if is_pair n (n + k) x then halves else 0) ≡
    (if k == x.hi - x.lo && nat_lt x.lo (suc n) then halves else 0)
term halves k n x h = grind (arith, nat_tests)

one_range : (halves k n : ℕ) (x : Pair) → x.lo ≤ x.hi →
    sum_at_range (λ lo hi. if is_pair lo hi x then halves else 0) k n ≡ (if k == x.hi - x.lo && nat_lt x.lo n then halves else 0)
one_range halves k zero x h = grind (arith, nat_tests)
one_range halves k (suc n) x h = omega (arith, one_range halves k n x h, term halves k n x h)

-- no pair so far apart is left out
all_lower : (halves k n : ℕ) (x : Pair) → x.lo ≤ x.hi → x.hi < n + k →
    (if k == x.hi - x.lo && nat_lt x.lo n then halves else 0) ≡ (if k == x.hi - x.lo then halves else 0)
all_lower halves k n x h w = grind (arith, nat_tests)

pub sum_is : (k n : ℕ) (l : List CountedRange) → All (IsWithin (n + k)) l →
    half_units_at_range k l ≡ sum_at_range (λ lo hi. half_units_of_pair lo hi l) k n
sum_is k n [] a = let e = sum_at_range-zero k n in omega (arith, e)
sum_is k n (r ∷ l) a =
    let w = All-head (IsWithin (n + k)) r l a in
    omega (
      arith,
      sum_at_range-added (λ lo hi. if is_pair lo hi r.pair then r.halves else 0) (λ lo hi. half_units_of_pair lo hi l) k n,
      one_range r.halves k n r.pair w.ordered,
      all_lower r.halves k n r.pair w.ordered w.below,
      sum_is k n l (All-tail (IsWithin (n + k)) r l a),
    )

pub has_range_sums : HasRangeSums
has_range_sums h k n a =
    sum_is k n (run [] (points h)) (run_within (n + k) (points h) [] (All-points (λ x. x < n + k) h a) (All-nil (λ x. x < n + k)))
