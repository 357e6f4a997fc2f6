-- Levels that come in pieces. The idea: levels that repeat change no points, and behind a history a piece in which neighbours differ gives
-- its turns, whether the level before its last one is a point or lies between two.
--   last_of-index   the last level of a list, by its place
--   piece           what a piece gives behind the last two points of a history
--   first_piece     the same of a history that begins
use Rattle.std.proofs.Common.{◌≡◌, ◌≢◌, ℕ, suc, ◌+◌, ◌-◌, ◌<◌, ◌≤◌, ◌⊎◌, inl, inr, Bool, true, false, if◌then◌else◌, List, [], ◌∷◌, ◌++◌, length, take, get_or, refl, sym, ap, ◌∙◌, subst, arith, append_assoc, append-nil}
use Rattle.std.proofs.lemmas.Bool.{cases_eq}
use Rattle.std.proofs.lemmas.Bool.Decides.{nat_tests}
use Rattle.std.proofs.lemmas.List.{take-take, take_all}
use Rattle.std.proofs.lemmas.Slice.{take-put_mid}
use Rattle.turning_points.specs.Points.{is_turn, changes, turns, points, IsBetween, IsTurn}
use Rattle.turning_points.specs.Turned.{decided_points, recent, HasGiven}
use Rattle.turning_points.specs.Pieces.{last_of, turns_in, recent_of}
use Rattle.turning_points.specs.declared.turner.Recent.{Recent}
use Rattle.turning_points.specs.declared.turner.Recent.TheVariants.{Nothing, One, Two}
use Rattle.turning_points.proofs.Zigzag.{IsZigzag, zig_points}
use Rattle.turning_points.proofs.Over.{points_inside}
use Rattle.turning_points.proofs.Directions.{changes_again, first_differs, no_turn}
use Rattle.turning_points.proofs.Push.{end_differs}
use Rattle.turning_points.proofs.TurnedSteps.{one_kept, two_kept, first_level, second_point, goes_further, turns_at}
use Rattle.turning_points.proofs.PutEnds.{between_differs}
use borrow.Rule.Slice.PartMut.{put_mid, mid_of}

pub last_of-index : (x : ℕ) (l : List ℕ) → 0 < length l → last_of x l ≡ get_or l (length l - 1) 0
last_of-index x [] h = absurd (omega arith)
last_of-index x (y ∷ []) h = refl
last_of-index x (y ∷ z ∷ l) h =
    let e : length (y ∷ z ∷ l) - 1 ≡ suc (length (z ∷ l) - 1) = omega arith in
    last_of-index y (z ∷ l) (omega arith) ∙ sym (ap (λ i. get_or (y ∷ z ∷ l) i 0) e)

-- the points of a history do not change where levels that repeat are dropped
points-changes : (front : List ℕ) (x : ℕ) (l : List ℕ) → points (front ++ (x ∷ changes x l)) ≡ points (front ++ (x ∷ l))
points-changes front x l =
    let same : points (x ∷ changes x l) ≡ points (x ∷ l) = ap (λ k. x ∷ turns x k) (changes_again x l) in
    let inside = λ (k : List ℕ). ap (λ m. points (front ++ m)) (sym (append-nil (x ∷ k))) ∙ sym (points_inside front (x ∷ k) [])
    ∙ ap (λ m. points (front ++ m)) (append-nil (points (x ∷ k))) in
    inside (changes x l) ∙ ap (λ m. points (front ++ m)) same ∙ sym (inside l)

-- The last two points p and x of a history, and a level q that stands before x on the side of p. An only point stands for all three.
abbrev Side : ℕ → ℕ → ℕ → Type 0
Side p q x = ((p ≡ x) × (q ≡ x)) ⊎ (((p < x) × (q < x)) ⊎ ((x < p) × (x < q)))

recent_of-same : (p x : ℕ) → p ≡ x → recent_of p x ≡ One x
recent_of-same p x e = grind (arith, nat_tests)

recent_of-other : (p x : ℕ) → p ≢ x → recent_of p x ≡ Two p x
recent_of-other p x n = grind (arith, nat_tests)

turn_at_point : (p q x v : ℕ) → ((p < x) × (q < x)) ⊎ ((x < p) × (x < q)) → is_turn q x v ≡ true → IsTurn p x v
turn_at_point p q x v s e = grind (arith, nat_tests)

between_point : (p q x v : ℕ) → ((p < x) × (q < x)) ⊎ ((x < p) × (x < q)) → x ≢ v → is_turn q x v ≡ false → IsBetween p x v
between_point p q x v s n e = grind (arith, nat_tests)

beyond : (p q x : ℕ) → ((p < x) × (q < x)) ⊎ ((x < p) × (x < q)) → p ≢ x
beyond p q x s = grind arith

-- one level more that differs from the last one
one_level : (h given : List ℕ) (p q x v : ℕ) (t : Bool) → is_turn q x v ≡ t → Side p q x → x ≢ v → HasGiven h given (recent_of p x)
    → HasGiven (h ++ v ∷ []) (given ++ (if t then x ∷ [] else [])) (recent_of (if t then x else p) v)
one_level h given p q x v true e (inl s) n k = absurd (let f = no_turn q x v s.1 in cc)
one_level h given p q x v false e (inl s) n k =
    let m : x ≢ v = n in
    subst (HasGiven (h ++ v ∷ []) (given ++ [])) (sym (ap (λ i. recent_of i v) s.0 ∙ recent_of-other x v n))
    (second_point h given x v (λ f. n (sym f)) (subst (HasGiven h given) (recent_of-same p x s.0) k))
one_level h given p q x v true e (inr s) n k =
    subst (HasGiven (h ++ v ∷ []) (given ++ x ∷ [])) (sym (recent_of-other x v n))
    (turns_at h given p x (subst (HasGiven h given) (recent_of-other p x (beyond p q x s)) k) v (turn_at_point p q x v s e))
one_level h given p q x v false e (inr s) n k =
    let b = between_point p q x v s n e in
    subst (HasGiven (h ++ v ∷ []) (given ++ [])) (sym (recent_of-other p v (between_differs p x v b)))
    (goes_further h given p x (subst (HasGiven h given) (recent_of-other p x (beyond p q x s)) k) v b)

side_at_turn : (x v : ℕ) → x ≢ v → Side x x v
side_at_turn x v n = grind arith

side_between : (p q x v : ℕ) → Side p q x → x ≢ v → is_turn q x v ≡ false → Side p x v
side_between p q x v s n e = grind (arith, nat_tests)

-- levels in which neighbours differ
record Given (h given : List ℕ) (p q x : ℕ) (l : List ℕ) : Type 0 where
  turned : HasGiven (h ++ l) (given ++ turns_in q x l) (recent_of (last_of p (turns_in q x l)) (last_of x l))

given_step : (h given : List ℕ) (p q x v : ℕ) (l : List ℕ) (t : Bool) → is_turn q x v ≡ t → Side p q x → x ≢ v →
    HasGiven h given (recent_of p x)
    → ((g : List ℕ) (r : ℕ) → Side r x v → HasGiven (h ++ v ∷ []) g (recent_of r v) → Given (h ++ v ∷ []) g r x v l)
    → HasGiven (h ++ (v ∷ l)) (given ++ (if t then x ∷ turns_in x v l else turns_in x v l))
    (recent_of (last_of p (if t then x ∷ turns_in x v l else turns_in x v l)) (last_of v l))
given_step h given p q x v l true e s n k next =
    let m = next (given ++ x ∷ []) x (side_at_turn x v n) (one_level h given p q x v true e s n k) in
    subst (λ g. HasGiven (h ++ (v ∷ l)) g (recent_of (last_of x (turns_in x v l)) (last_of v l)))
    (append_assoc given (x ∷ []) (turns_in x v l))
    (subst (λ f. HasGiven f ((given ++ x ∷ []) ++ turns_in x v l) (recent_of (last_of x (turns_in x v l)) (last_of v l)))
    (append_assoc h (v ∷ []) l) m.turned)
given_step h given p q x v l false e s n k next =
    let m = next (given ++ []) p (side_between p q x v s n e) (one_level h given p q x v false e s n k) in
    subst (λ g. HasGiven (h ++ (v ∷ l)) (g ++ turns_in x v l) (recent_of (last_of p (turns_in x v l)) (last_of v l))) (append-nil given)
    (subst (λ f. HasGiven f ((given ++ []) ++ turns_in x v l) (recent_of (last_of p (turns_in x v l)) (last_of v l)))
    (append_assoc h (v ∷ []) l) m.turned)

given_of : (l h given : List ℕ) (p q x : ℕ) → Side p q x → changes x l ≡ l → HasGiven h given (recent_of p x) → Given h given p q x l
given_of [] h given p q x s e k = record {
  turned = subst (λ g. HasGiven (h ++ []) g (recent_of p x)) (sym (append-nil given))
      (subst (λ f. HasGiven f given (recent_of p x)) (sym (append-nil h)) k);
}
given_of (v ∷ l) h given p q x s e k =
    let d = first_differs x v l e in
    record { turned = given_step h given p q x v l _ refl s d.0 k (λ g r side m. given_of l (h ++ v ∷ []) g r x v side d.1 m) }

-- behind a history whose last point is x, levels that repeat change no points
same_points : (h front : List ℕ) (x : ℕ) (l : List ℕ) → points h ≡ front ++ (x ∷ []) → points (h ++ changes x l) ≡ points (h ++ l)
same_points h front x l e =
    let over = λ (k : List ℕ). sym (points_inside [] h k) ∙ ap (λ m. points (m ++ k)) e ∙ ap points (append_assoc front (x ∷ []) k) in
    over (changes x l) ∙ points-changes front x l ∙ sym (over l)

-- the front before the last point
front_of : (h : List ℕ) (p x : ℕ) → ((p ≡ x) ⊎ (p ≢ x)) → recent_of p x ≡ recent (points h) →
    (front : List ℕ) × (points h ≡ front ++ (x ∷ []))
front_of h p x (inl e) k = ([], one_kept (points h) x (sym (recent_of-same p x e) ∙ k))
front_of h p x (inr n) k =
    let f = two_kept (points h) p x (sym (recent_of-other p x n) ∙ k) in
    (f.front ++ (p ∷ []), f.is ∙ sym (append_assoc f.front (p ∷ []) (x ∷ [])))

side_of_points : (p x : ℕ) → Side p p x
side_of_points p x = grind arith

turned_same : {h k given : List ℕ} {kept : Recent} → points h ≡ points k → HasGiven h given kept → HasGiven k given kept
turned_same e t = record { given_are = t.given_are ∙ ap decided_points e; kept_are = t.kept_are ∙ ap recent e }

pub piece : (h given : List ℕ) (p x : ℕ) (l : List ℕ) → HasGiven h given (recent_of p x)
    → HasGiven (h ++ l) (given ++ turns_in p x (changes x l)) (recent_of (last_of p (turns_in p x (changes x l))) (last_of x (changes x l)))
piece h given p x l k =
    let f = front_of h p x (cases_eq p x) k.kept_are in
    turned_same (same_points h f.0 x l f.1) (given_of (changes x l) h given p p x (side_of_points p x) (changes_again x l) k).turned

-- the same where the last two points are known
pub piece_two : {h given : List ℕ} {p x : ℕ} → HasGiven h given (Two p x) → HasGiven h given (recent_of p x)
piece_two {h} {given} {p} {x} t =
    let f = two_kept (points h) p x t.kept_are in
    subst (HasGiven h given) (sym (recent_of-other p x (end_differs f.front p x (subst IsZigzag f.is (zig_points h))))) t

pub piece_one : {h given : List ℕ} {x : ℕ} → HasGiven h given (One x) → HasGiven h given (recent_of x x)
piece_one {h} {given} {x} t = subst (HasGiven h given) (sym (recent_of-same x x refl)) t

-- the first level of a list stays, and the others were put behind it
first_stays : (x : ℕ) (l ys : List ℕ) (r k : ℕ) → k ≡ length l → length ys ≡ k → r ≤ k →
    take (1 + r) (put_mid 1 k (x ∷ l) ys) ≡ x ∷ take r ys
first_stays x l ys r k e f h =
    let all : take (1 + k) (put_mid 1 k (x ∷ l) ys) ≡ x ∷ ys = take-put_mid 1 k (x ∷ l) ys (1 + k) (omega arith) (omega arith) in
    let one : 1 + r ≡ suc r = omega arith in
    sym (take-take (1 + r) (1 + k) (put_mid 1 k (x ∷ l) ys) (omega arith)) ∙ ap (take (1 + r)) all ∙ ap (λ n. take n (x ∷ ys)) one

-- a history that begins: the first level of its first piece is a point, and the rest comes behind it
pub first_piece : (s ys : List ℕ) (r k : ℕ) (kept : Recent) → 0 < length s → k ≡ length s - 1 → length ys ≡ k → r ≤ k
    → ((f g : List ℕ) → HasGiven f g (recent_of (get_or s 0 0) (get_or s 0 0)) → HasGiven (f ++ mid_of 1 k s) (g ++ take r ys) kept)
    → (h given : List ℕ) → HasGiven h given Nothing → HasGiven (h ++ s) (given ++ take (1 + r) (put_mid 1 k s ys)) kept
first_piece [] ys r k kept some e f w next h given t = absurd (omega arith)
first_piece (x ∷ l) ys r k kept some e f w next h given t =
    let whole : mid_of 1 k (x ∷ l) ≡ l = take_all k l (omega arith) in
    let m = subst (λ b. HasGiven ((h ++ x ∷ []) ++ b) ((given ++ x ∷ []) ++ take r ys) kept) whole
    (next (h ++ x ∷ []) (given ++ x ∷ []) (piece_one (first_level h given x t))) in
    subst (λ g. HasGiven (h ++ (x ∷ l)) (given ++ g) kept) (sym (first_stays x l ys r k (omega arith) f w))
    (subst (λ g. HasGiven (h ++ (x ∷ l)) g kept) (append_assoc given (x ∷ []) (take r ys))
    (subst (λ f. HasGiven f ((given ++ x ∷ []) ++ take r ys) kept) (append_assoc h (x ∷ []) l) m))
