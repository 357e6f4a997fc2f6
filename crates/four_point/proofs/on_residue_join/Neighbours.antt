-- A list to which no deletion applies counts one half unit for each two neighbours. The idea: its ranges grow and then shrink. While
-- they grow, each range contains the starting point and is counted as a half; once one is smaller than the range before it, all later
-- ones shrink, nothing more is counted, and the ranges that are left are halves at the end.
--   run_shrinks      while ranges shrink nothing is counted, whatever is live
--   residue_counts   the whole list
use Rattle.std.proofs.Common.{◌≡◌, ℕ, ◌+◌, ◌<◌, ◌≤◌, ◌⊎◌, inl, inr, List, [], ◌∷◌, refl, ap, arith}
use Rattle.std.proofs.lemmas.Bool.{cases_lt}
use Rattle.turning_points.specs.Pairs.{range}
use Rattle.turning_points.specs.three_point.Run.{counted_range, ranges_left, run, half_units_of_pair}
use Rattle.turning_points.proofs.on_three_point.Steps.{live_after_half, ranges_counted_half, live_after_less, ranges_counted_less}
use Rattle.four_point.proofs.HasNoCycle.{HasNoCycle, HasNoCycle-tail, Shrinks, shrinks, Shrinks-from_no_cycle}
use Rattle.four_point.specs.residue_join.HalfUnits.{neighbours}
use Rattle.four_point.proofs.on_residue_join.OneDeletion.{half_units_of_pair-append, run_step}

module _ (lo hi : ℕ) where
  run_shrinks : (z y : ℕ) (v l : List ℕ) → Shrinks (y ∷ z ∷ l) →
      half_units_of_pair lo hi (run (z ∷ y ∷ v) l) ≡ half_units_of_pair lo hi (ranges_left (z ∷ y ∷ v)) + half_units_of_pair lo hi
      (neighbours (z ∷ l))
  run_shrinks z y v [] s = omega arith
  run_shrinks z y v (w ∷ l) (shrinks h s) =
      let e = live_after_less w z y v h in
      let f = ranges_counted_less w z y v h in
      let i = run_shrinks w z (y ∷ v) l s in
      let j = half_units_of_pair-append lo hi (ranges_left (z ∷ y ∷ v)) (counted_range z w 1 ∷ []) in
      omega (arith, run_step lo hi w (z ∷ y ∷ v) l, ap (half_units_of_pair lo hi) f, ap (λ s. half_units_of_pair lo hi (run s l)) e, i, j)

  grow_run : (x y z : ℕ) (l : List ℕ) → HasNoCycle (x ∷ y ∷ z ∷ l) →
      half_units_of_pair lo hi (run (z ∷ y ∷ []) l) ≡ half_units_of_pair lo hi (neighbours (y ∷ z ∷ l)) →
      ((range y z < range x y) ⊎ (range x y ≤ range y z)) →
      half_units_of_pair lo hi (run (y ∷ x ∷ []) (z ∷ l)) ≡ half_units_of_pair lo hi (neighbours (x ∷ y ∷ z ∷ l))
  grow_run x y z l c h (inl s) =
      let i = run_shrinks y x [] (z ∷ l) (shrinks s (Shrinks-from_no_cycle x y z l c (omega arith))) in omega (arith, i)
  grow_run x y z l c h (inr s) =
      let e = live_after_half z y x s in
      let f = ranges_counted_half z y x s in
      omega (arith, run_step lo hi z (y ∷ x ∷ []) l, ap (half_units_of_pair lo hi) f, ap (λ s. half_units_of_pair lo hi (run s l)) e, h)

  run_no_cycle : (x y : ℕ) (l : List ℕ) → HasNoCycle (x ∷ y ∷ l) →
      half_units_of_pair lo hi (run (y ∷ x ∷ []) l) ≡ half_units_of_pair lo hi (neighbours (x ∷ y ∷ l))
  run_no_cycle x y [] c = omega arith
  run_no_cycle x y (z ∷ l) c = grow_run x y z l c (run_no_cycle y z l (HasNoCycle-tail c)) (cases_lt (range y z) (range x y))

  -- a list that admits no deletion counts one half unit for each two neighbours
  pub residue_counts : (l : List ℕ) → HasNoCycle l → half_units_of_pair lo hi (run [] l) ≡ half_units_of_pair lo hi (neighbours l)
  residue_counts [] c = refl
  residue_counts (x ∷ []) c = refl
  residue_counts (x ∷ y ∷ l) c = run_no_cycle x y l c
