-- The numbered steps of ASTM E1049-85, 5.4.4, each as a constructor. Live points stand with the newest first, and the
-- last of them is the starting point S. X is the range from y to z, the two newest live points, and Y the previous
-- range, from x to y.
--   Step           what steps 4 and 5 count, and the points that they leave
--   HasNoStep      where steps 2 and 3 go back to step 1: neither step 4 nor step 5 applies
--   CountsBySteps  all that the steps count, from these live points on and with these points to read
--   HasSteps       the steps count the ranges of `run`, and no others
use Rattle.std.specs.Prelude.{◌≡◌, ℕ, ◌≤◌, List, [], ◌∷◌}
use Rattle.turning_points.specs.Pairs.{range}
use Rattle.turning_points.specs.three_point.Run.{CountedRange, counted_range, ranges_left, run}

-- X >= Y. Step 4: Y doesn't contain S. It is one cycle, and its two points are discarded.
-- Step 5: Y contains S. It is one half cycle; its first point is discarded, and S moves to its second.
pub data Step : List ℕ → CountedRange → List ℕ → Type 0 where
  step_4 : {x y z w : ℕ} {live : List ℕ} → range x y ≤ range y z →
      Step (z ∷ y ∷ x ∷ w ∷ live) (counted_range x y 2) (z ∷ w ∷ live)
  step_5 : {s y z : ℕ} → range s y ≤ range y z → Step (z ∷ y ∷ s ∷ []) (counted_range s y 1) (z ∷ y ∷ [])

-- Step 2: there are fewer than three points. Step 3: X < Y.
abbrev pub HasNoStep : List ℕ → Type 0
HasNoStep live = (r : CountedRange) (left : List ℕ) → Step live r left → ⊥

-- Step 1: the next point is read. Step 6, out of data: each range not yet counted is one half cycle.
pub data CountsBySteps : List ℕ → List ℕ → List CountedRange → Type 0 where
  step_1 : {live unread : List ℕ} {z : ℕ} {l : List CountedRange} → HasNoStep live → CountsBySteps (z ∷ live) unread l →
      CountsBySteps live (z ∷ unread) l
  steps_2_to_5 : {live left unread : List ℕ} {r : CountedRange} {l : List CountedRange} → Step live r left →
      CountsBySteps left unread l
      → CountsBySteps live unread (r ∷ l)
  step_6 : {live : List ℕ} → HasNoStep live → CountsBySteps live [] (ranges_left live)

-- Over any list of points the steps count exactly the ranges of `run`, in this order.
pub record HasSteps : Type 0 where
  pub only : (p : List ℕ) (l : List CountedRange) → CountsBySteps [] p l → l ≡ run [] p
  pub some : (p : List ℕ) → CountsBySteps [] p (run [] p)
