-- The standard's steps, one after another, list the run.
use Rattle.std.proofs.Common.{◌≡◌, ℕ, ◌<◌, ◌≤◌, ◌⊎◌, inl, inr, List, [], ◌∷◌, ◌++◌, refl, sym, ap, ap₂, ◌∙◌, subst, arith}
use Rattle.std.proofs.lemmas.Bool.{cases_lt}
use Rattle.turning_points.specs.Pairs.{range}
use Rattle.turning_points.specs.three_point.Run.{CountedRange, counted_range, live_after, ranges_counted, run}
use Rattle.turning_points.specs.three_point.Standard.{step_4, step_5, HasNoStep, CountsBySteps, steps_2_to_5, step_1, step_6, HasSteps}
use Rattle.turning_points.proofs.on_three_point.Steps.{live_after_cycle, ranges_counted_cycle, live_after_half, ranges_counted_half, live_after_less, ranges_counted_less}

-- what a point that was read counts and leaves, where no step applies
record Idle (z : ℕ) (live : List ℕ) : Type 0 where
  none : ranges_counted z live ≡ []
  all : live_after z live ≡ z ∷ live

idle_by : (z y x : ℕ) (v : List ℕ) → HasNoStep (z ∷ y ∷ x ∷ v) → ((range y z < range x y) ⊎ (range x y ≤ range y z)) → Idle z (y ∷ x ∷ v)
idle_by z y x v w (inl h) = record { none = ranges_counted_less z y x v h; all = live_after_less z y x v h }
idle_by z y x [] w (inr h) = absurd (w _ _ (step_5 h))
idle_by z y x (s ∷ v) w (inr h) = absurd (w _ _ (step_4 h))

idle : (z : ℕ) (live : List ℕ) → HasNoStep (z ∷ live) → Idle z live
idle z [] w = record { none = refl; all = refl }
idle z (y ∷ []) w = record { none = refl; all = refl }
idle z (y ∷ x ∷ v) w = idle_by z y x v w (cases_lt (range y z) (range x y))

-- the run from live points of which z is the newest
from : {z : ℕ} {live left : List ℕ} {l : List CountedRange} → CountsBySteps (z ∷ live) left l →
    l ≡ ranges_counted z live ++ run (live_after z live) left
from {z} {left = left} (steps_2_to_5 (step_4 {x} {y} {w = s} {live = v} h) c) =
    ap (λ k. counted_range x y 2 ∷ k) (from c) ∙ sym (ap₂ (λ k m. k ++ run m left) (ranges_counted_cycle z y x s v h)
    (live_after_cycle z y x s v h))
from {z} {left = left} (steps_2_to_5 (step_5 {s} {y} h) c) =
    ap (λ k. counted_range s y 1 ∷ k) (from c) ∙ sym (ap₂ (λ k m. k ++ run m left) (ranges_counted_half z y s h) (live_after_half z y s h))
from {z} {live} (step_1 {unread = unread} {z = next} w c) =
    let i = idle z live w in from c ∙ sym (ap₂ (λ k m. k ++ run m (next ∷ unread)) i.none i.all)
from {z} {live} (step_6 w) = let i = idle z live w in sym (ap₂ (λ k m. k ++ run m []) i.none i.all)

only : (p : List ℕ) (l : List CountedRange) → CountsBySteps [] p l → l ≡ run [] p
only [] l (steps_2_to_5 s c) = elim s [ ]
only [] l (step_6 w) = refl
only (z ∷ p) l (steps_2_to_5 s c) = elim s [ ]
only (z ∷ p) l (step_1 w c) = from c

waits_none : HasNoStep []
waits_none r left s = elim s [ ]

waits_one : (z : ℕ) → HasNoStep (z ∷ [])
waits_one z r left s = elim s [ ]

waits_two : (z y : ℕ) → HasNoStep (z ∷ y ∷ [])
waits_two z y r left s = elim s [ ]

waits_less : (z y x : ℕ) (v : List ℕ) → range y z < range x y → HasNoStep (z ∷ y ∷ x ∷ v)
waits_less z y x [] h r left (step_5 g) = omega arith
waits_less z y x (w ∷ v) h r left (step_4 g) = omega arith

-- a point that was read, until no step applies
record ReadOut (z : ℕ) (live : List ℕ) : Type 0 where
  waits : HasNoStep (live_after z live)
  by : (left : List ℕ) (l : List CountedRange) → CountsBySteps (live_after z live) left l →
      CountsBySteps (z ∷ live) left (ranges_counted z live ++ l)

read_out_at : (z : ℕ) (live to : List ℕ) (listing : List CountedRange) → live_after z live ≡ to → ranges_counted z live ≡ listing
    → HasNoStep to
    → ((left : List ℕ) (l : List CountedRange) → CountsBySteps to left l → CountsBySteps (z ∷ live) left (listing ++ l)) → ReadOut z live
read_out_at z live to listing e f w c = record {
  waits = subst HasNoStep (sym e) w;
  by = λ left l d. subst (λ k. CountsBySteps (z ∷ live) left (k ++ l)) (sym f) (c left l (subst (λ k. CountsBySteps k left l) e d));
}

read_out_by : (z y x : ℕ) (v : List ℕ) → ((range y z < range x y) ⊎ (range x y ≤ range y z)) →
    ((w : ℕ) (u : List ℕ) → v ≡ w ∷ u → ReadOut z (w ∷ u)) → ReadOut z (y ∷ x ∷ v)
read_out_by z y x v (inl h) next =
    read_out_at z _ _ _ (live_after_less z y x v h) (ranges_counted_less z y x v h) (waits_less z y x v h) (λ left l d. d)
read_out_by z y x [] (inr h) next =
    read_out_at z _ _ _ (live_after_half z y x h) (ranges_counted_half z y x h) (waits_two z y) (λ left l d. steps_2_to_5 (step_5 h) d)
read_out_by z y x (w ∷ u) (inr h) next =
    let n = next w u refl in
    read_out_at z _ _ _ (live_after_cycle z y x w u h) (ranges_counted_cycle z y x w u h) n.waits
    (λ left l d. steps_2_to_5 (step_4 h) (n.by left l d))

read_out : (z : ℕ) (live : List ℕ) → ReadOut z live
read_out z [] = record { waits = waits_one z; by = λ left l d. d }
read_out z (y ∷ []) = record { waits = waits_two z y; by = λ left l d. d }
read_out z (y ∷ x ∷ []) = read_out_by z y x [] (cases_lt (range y z) (range x y)) (λ w u e. absurd (cc))
read_out z (y ∷ x ∷ w ∷ u) =
    read_out_by z y x (w ∷ u) (cases_lt (range y z) (range x y)) (λ w' u' e. subst (ReadOut z) e (read_out z (w ∷ u)))

some : (live p : List ℕ) → HasNoStep live → CountsBySteps live p (run live p)
some live [] w = step_6 w
some live (z ∷ p) w = let d = read_out z live in step_1 w (d.by p _ (some (live_after z live) p d.waits))

pub has_steps : HasSteps
has_steps = record { only = only; some = λ p. some [] p waits_none }
