-- The steps of the standard as equations, one for each outcome of the comparison of X and Y. The point z is read, y and x are the two
-- newest live points.
--   live_after_half, ranges_counted_half     X >= Y, and Y contains the starting point
--   live_after_cycle, ranges_counted_cycle   X >= Y, and it does not
--   live_after_less, ranges_counted_less     X < Y
--   live_after_few, ranges_counted_few       there are fewer than three points
use Rattle.std.proofs.Common.{◌≡◌, ℕ, ◌<◌, ◌≤◌, List, [], ◌∷◌, length, refl, arith}
use Rattle.std.proofs.lemmas.Bool.Decides.{nat_tests}
use Rattle.turning_points.specs.Pairs.{range}
use Rattle.turning_points.specs.three_point.Run.{counted_range, live_after, ranges_counted}

pub live_after_cycle : (z y x w : ℕ) (v : List ℕ) → range x y ≤ range y z → live_after z (y ∷ x ∷ w ∷ v) ≡ live_after z (w ∷ v)
live_after_cycle z y x w v h = grind (arith, nat_tests)

pub ranges_counted_cycle : (z y x w : ℕ) (v : List ℕ) → range x y ≤ range y z →
    ranges_counted z (y ∷ x ∷ w ∷ v) ≡ counted_range x y 2 ∷ ranges_counted z (w ∷ v)
ranges_counted_cycle z y x w v h = grind (arith, nat_tests)

pub live_after_half : (z y x : ℕ) → range x y ≤ range y z → live_after z (y ∷ x ∷ []) ≡ z ∷ y ∷ []
live_after_half z y x h = grind (arith, nat_tests)

pub ranges_counted_half : (z y x : ℕ) → range x y ≤ range y z → ranges_counted z (y ∷ x ∷ []) ≡ counted_range x y 1 ∷ []
ranges_counted_half z y x h = grind (arith, nat_tests)

pub live_after_less : (z y x : ℕ) (v : List ℕ) → range y z < range x y → live_after z (y ∷ x ∷ v) ≡ z ∷ y ∷ x ∷ v
live_after_less z y x [] h = grind (arith, nat_tests)
live_after_less z y x (w ∷ v) h = grind (arith, nat_tests)

pub ranges_counted_less : (z y x : ℕ) (v : List ℕ) → range y z < range x y → ranges_counted z (y ∷ x ∷ v) ≡ []
ranges_counted_less z y x [] h = grind (arith, nat_tests)
ranges_counted_less z y x (w ∷ v) h = grind (arith, nat_tests)

pub live_after_few : (z : ℕ) (v : List ℕ) → length v < 2 → live_after z v ≡ z ∷ v
live_after_few z [] h = refl
live_after_few z (y ∷ []) h = refl
live_after_few z (y ∷ x ∷ v) h = absurd (omega arith)

pub ranges_counted_few : (z : ℕ) (v : List ℕ) → length v < 2 → ranges_counted z v ≡ []
ranges_counted_few z [] h = refl
ranges_counted_few z (y ∷ []) h = refl
ranges_counted_few z (y ∷ x ∷ v) h = absurd (omega arith)
