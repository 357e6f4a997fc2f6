-- The points of a history beside its levels.
--   All-points      what holds of each level holds of each point
--   points_own      the points of a history are their own points
--   length-points   there are no more points than levels
use Rattle.std.proofs.Common.{◌≡◌, ℕ, ◌+◌, ◌≤◌, List, [], ◌∷◌, length, sym, subst, arith}
use Rattle.std.specs.Prelude.{All}
use Rattle.std.proofs.lemmas.List.Elements.{All-cons, All-head, All-tail}
use Rattle.turning_points.specs.Points.{points}
use Rattle.turning_points.proofs.Zigzag.{Added, first, equal, second, turn, between, is_added, points_cons, IsZigzag, zig_points}
use Rattle.turning_points.proofs.Over.{own}

All-added : (P : ℕ → Type 0) {x : ℕ} {l m : List ℕ} → Added x l m → P x → All P l → All P m
All-added P {x} first p a = All-cons P x [] p a
All-added P (equal e) p a = a
All-added P {x} (second {y = y} n) p a = All-cons P x (y ∷ []) p a
All-added P {x} (turn {y = y} {z = z} {l = l} t) p a = All-cons P x (y ∷ z ∷ l) p a
All-added P {x} (between {y = y} {z = z} {l = l} b) p a = All-cons P x (z ∷ l) p (All-tail P y (z ∷ l) a)

pub All-points : (P : ℕ → Type 0) (h : List ℕ) → All P h → All P (points h)
All-points P [] a = a
All-points P (x ∷ h) a = subst (All P) (sym (points_cons x h)) (All-added P (is_added x (points h) (zig_points h)) (All-head P x h a)
    (All-points P h (All-tail P x h a)))

pub points_own : (h p : List ℕ) → p ≡ points h → points p ≡ p
points_own h p e = own (subst IsZigzag (sym e) (zig_points h))

length-added : {x : ℕ} {l m : List ℕ} → Added x l m → length m ≤ length l + 1
length-added first = omega arith
length-added (equal e) = omega arith
length-added (second n) = omega arith
length-added (turn t) = omega arith
length-added (between b) = omega arith

pub length-points : (h : List ℕ) → length (points h) ≤ length h
length-points [] = omega arith
length-points (x ∷ h) = subst (λ l. length l ≤ length (x ∷ h)) (sym (points_cons x h))
    (omega (arith, length-added (is_added x (points h) (zig_points h)), length-points h))
