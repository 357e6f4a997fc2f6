-- What was given for a history, beside its levels.
--   All-given, All-next_given   what holds of each level holds of each point given, and of those that a piece gave
use Rattle.std.proofs.Common.{ℕ, ◌≤◌, List, [], ◌∷◌, ◌++◌, length, sym, subst, arith}
use Rattle.std.specs.Prelude.{All}
use Rattle.std.proofs.lemmas.List.Elements.{All-nil, All-cons, All-head, All-tail}
use Rattle.lemmas.proofs.Lists.{All-behind}
use Rattle.turning_points.specs.Points.{points}
use Rattle.turning_points.specs.Turned.{but_last, decided_points, HasGiven}
use Rattle.turning_points.specs.declared.turner.Recent.{Recent}
use Rattle.turning_points.proofs.Levels.{All-points}

All-but_last : (P : ℕ → Type 0) (l : List ℕ) → All P l → All P (but_last l)
All-but_last P [] a = All-nil P
All-but_last P (x ∷ []) a = All-nil P
All-but_last P (x ∷ y ∷ l) a = All-cons P x (but_last (y ∷ l)) (All-head P x (y ∷ l) a) (All-but_last P (y ∷ l) (All-tail P x (y ∷ l) a))

All-decided : (P : ℕ → Type 0) (l : List ℕ) → All P l → All P (decided_points l)
All-decided P [] a = All-nil P
All-decided P (x ∷ []) a = a
All-decided P (x ∷ y ∷ l) a = All-cons P x (but_last (y ∷ l)) (All-head P x (y ∷ l) a) (All-but_last P (y ∷ l) (All-tail P x (y ∷ l) a))

length-but_last : (l : List ℕ) → length (but_last l) ≤ length l
length-but_last [] = omega arith
length-but_last (x ∷ []) = omega arith
length-but_last (x ∷ y ∷ l) = omega (arith, length-but_last (y ∷ l))

pub All-given : (P : ℕ → Type 0) {h given : List ℕ} {kept : Recent} → All P h → HasGiven h given kept → All P given
All-given P {h} a t = subst (All P) (sym t.given_are) (All-decided P (points h) (All-points P h a))

pub All-next_given : (P : ℕ → Type 0) {h : List ℕ} (given more : List ℕ) {kept : Recent} → All P h →
    HasGiven h (given ++ more) kept → All P more
All-next_given P given more a t = All-behind P given more (All-given P a t)
