-- The ranges that the run counts lie between the levels of its points.
--   All-live_after           what holds of each live point, and of the point that is read, holds afterwards
--   All-ranges_counted, All-ranges_left, run_within   the ranges lie within the bound
use Rattle.std.proofs.Common.{ℕ, ◌<◌, ◌≤◌, Bool, true, false, if◌then◌else◌, List, [], ◌∷◌, arith}
use Rattle.std.specs.Prelude.{All}
use Rattle.std.proofs.lemmas.List.Elements.{All-nil, All-cons, All-head, All-tail, All-append}
use Rattle.turning_points.specs.three_point.Run.{CountedRange, counted_range, live_after, ranges_counted, ranges_left, run}
use Rattle.turning_points.specs.three_point.Bounds.{IsWithin}

one_of_two : {X : Type 0} (P : X → Type 0) (b : Bool) (l m : List X) → All P l → All P m → All P (if b then l else m)
one_of_two P true l m p q = p
one_of_two P false l m p q = q

module _ (P : ℕ → Type 0) where
  pub All-live_after : (z : ℕ) (live : List ℕ) → P z → All P live → All P (live_after z live)
  All-live_after z [] p a = All-cons P z [] p a
  All-live_after z (y ∷ []) p a = All-cons P z (y ∷ []) p a
  All-live_after z (y ∷ x ∷ []) p a =
      one_of_two P _ (z ∷ y ∷ []) (z ∷ y ∷ x ∷ []) (All-cons P z (y ∷ []) p (All-cons P y [] (All-head P y (x ∷ []) a) (All-nil P)))
      (All-cons P z (y ∷ x ∷ []) p a)
  All-live_after z (y ∷ x ∷ w ∷ live) p a =
      one_of_two P _ (live_after z (w ∷ live)) (z ∷ y ∷ x ∷ w ∷ live)
      (All-live_after z (w ∷ live) p (All-tail P x (w ∷ live) (All-tail P y (x ∷ w ∷ live) a))) (All-cons P z (y ∷ x ∷ w ∷ live) p a)

module _ (n : ℕ) where
  counted_within : (x y halves : ℕ) → 1 ≤ halves → halves ≤ 2 → x < n → y < n → IsWithin n (counted_range x y halves)
  counted_within x y halves some few p q = record { ordered = omega arith; below = omega arith; some = some; few = few }

  one_within : (x y halves : ℕ) (l : List CountedRange) → 1 ≤ halves → halves ≤ 2 → x < n → y < n → All (IsWithin n) l →
      All (IsWithin n) (counted_range x y halves ∷ l)
  one_within x y halves l some few p q a = All-cons (IsWithin n) (counted_range x y halves) l (counted_within x y halves some few p q) a

  pub All-ranges_counted : (z : ℕ) (live : List ℕ) → All (λ x. x < n) live → All (IsWithin n) (ranges_counted z live)
  All-ranges_counted z [] a = All-nil (IsWithin n)
  All-ranges_counted z (y ∷ []) a = All-nil (IsWithin n)
  All-ranges_counted z (y ∷ x ∷ []) a =
      let p = All-head (λ v. v < n) y (x ∷ []) a in
      let q = All-head (λ v. v < n) x [] (All-tail (λ v. v < n) y (x ∷ []) a) in
      one_of_two (IsWithin n) _ (counted_range x y 1 ∷ []) [] (one_within x y 1 [] (omega arith) (omega arith) q p (All-nil (IsWithin n)))
      (All-nil (IsWithin n))
  All-ranges_counted z (y ∷ x ∷ w ∷ live) a =
      let p = All-head (λ v. v < n) y (x ∷ w ∷ live) a in
      let b = All-tail (λ v. v < n) y (x ∷ w ∷ live) a in
      let q = All-head (λ v. v < n) x (w ∷ live) b in
      let r = All-ranges_counted z (w ∷ live) (All-tail (λ v. v < n) x (w ∷ live) b) in
      one_of_two (IsWithin n) _ (counted_range x y 2 ∷ ranges_counted z (w ∷ live)) []
      (one_within x y 2 (ranges_counted z (w ∷ live)) (omega arith) (omega arith) q p r) (All-nil (IsWithin n))

  pub All-ranges_left : (live : List ℕ) → All (λ x. x < n) live → All (IsWithin n) (ranges_left live)
  All-ranges_left [] a = All-nil (IsWithin n)
  All-ranges_left (y ∷ []) a = All-nil (IsWithin n)
  All-ranges_left (y ∷ x ∷ live) a =
      let p = All-head (λ v. v < n) y (x ∷ live) a in
      let b = All-tail (λ v. v < n) y (x ∷ live) a in
      let q = All-head (λ v. v < n) x live b in
      All-append (IsWithin n) (ranges_left (x ∷ live)) (counted_range x y 1 ∷ []) (All-ranges_left (x ∷ live) b)
      (one_within x y 1 [] (omega arith) (omega arith) q p (All-nil (IsWithin n)))

  pub run_within : (l live : List ℕ) → All (λ x. x < n) l → All (λ x. x < n) live → All (IsWithin n) (run live l)
  run_within [] live a b = All-ranges_left live b
  run_within (z ∷ l) live a b =
      let p = All-head (λ v. v < n) z l a in
      All-append (IsWithin n) (ranges_counted z live) (run (live_after z live) l) (All-ranges_counted z live b)
      (run_within l (live_after z live) (All-tail (λ v. v < n) z l a) (All-live_after (λ v. v < n) z live p b))
