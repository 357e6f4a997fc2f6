-- The rules of a segment where two parts meet.
use Rattle.std.proofs.Common.{◌≡◌, ◌≢◌, ℕ, suc, ◌+◌, ◌<◌, ◌≤◌, ◌⊎◌, inl, inr, List, [], ◌∷◌, length, get_or, refl, sym, ap, ◌∙◌, arith}
use Rattle.std.proofs.lemmas.Bool.{cases_eq, cases_lt}
use Rattle.std.proofs.lemmas.Bool.Decides.{nat_tests}
use Rattle.turning_points.specs.Points.{IsBetween, IsTurn}
use Rattle.turning_points.specs.EndPoints.{EndPoints, ends_of, last_point, last_but_one, IsEnds, ends_prepend, ends_of_both, ends_push, only_point}
use Rattle.turning_points.proofs.Zigzag.{IsZigzag, two, inner, zig_tail, ends_differ}
use Rattle.turning_points.proofs.Put.{turn_or, put_equal, put_second, put_turn, put_two, put_first}
use Rattle.turning_points.proofs.PutEnds.{case_of}
use Rattle.turning_points.proofs.MeetEnds.{Left as Parted, left_zero, left_one, left_two, left_long, left_of, twice, ends_of_both_zero, ends_of_both_one, ends_of_both_two, ends_of_both_long, long}

put_one_same : (x p : ℕ) → p ≡ x → ends_prepend p (only_point x) ≡ only_point x
put_one_same x p e = put_equal p (only_point x) (omega arith) e

put_one_other : (x p : ℕ) → p ≢ x → ends_prepend p (only_point x) ≡ record { points = 2; first = p; second = x; before = p; last = x }
put_one_other x p n = put_second p (only_point x) refl n

-- what one level more is behind a history with these ends
pub data PushCase (x : ℕ) (e : EndPoints) : Type 0 where
  on_none : e.points ≡ 0 → PushCase x e
  on_equal : 1 ≤ e.points → x ≡ e.last → PushCase x e
  on_second : e.points ≡ 1 → x ≢ e.last → PushCase x e
  on_turn : 2 ≤ e.points → IsTurn e.before e.last x → PushCase x e
  on_passed : 2 ≤ e.points → IsBetween e.before e.last x → PushCase x e

pub push_case : (x : ℕ) (e : EndPoints) → (2 ≤ e.points → e.before ≢ e.last) → PushCase x e
push_case x e d = pick_none (cases_lt e.points 1)
  where
    pick_turn : 2 ≤ e.points → (IsTurn e.before e.last x ⊎ IsBetween e.before e.last x) → PushCase x e
    pick_turn h (inl t) = on_turn h t
    pick_turn h (inr b) = on_passed h b

    pick_long : 1 ≤ e.points → x ≢ e.last → ((e.points < 2) ⊎ (2 ≤ e.points)) → PushCase x e
    pick_long h n (inl s) = let p : e.points ≡ 1 = omega arith in on_second p n
    pick_long h n (inr s) = pick_turn s (turn_or e.before e.last x (d s) (λ q. n (sym q)))

    pick_some : 1 ≤ e.points → ((x ≡ e.last) ⊎ (x ≢ e.last)) → PushCase x e
    pick_some h (inl q) = on_equal h q
    pick_some h (inr n) = pick_long h n (cases_lt e.points 2)

    pick_none : ((e.points < 1) ⊎ (1 ≤ e.points)) → PushCase x e
    pick_none (inl h) = let p : e.points ≡ 0 = omega arith in on_none p
    pick_none (inr h) = pick_some h (cases_eq x e.last)

-- what the last two points make of one level more
twice_same : (x p l : ℕ) → p ≢ l → l ≡ x → ends_prepend p (ends_prepend l (only_point x)) ≡
    record { points = 2; first = p; second = x; before = p; last = x }
twice_same x p l n e = ap (ends_prepend p) (put_one_same x l e) ∙ put_one_other x p (λ q. n (q ∙ sym e))

twice_turn : (x p l : ℕ) → l ≢ x → IsTurn p l x → ends_prepend p (ends_prepend l (only_point x)) ≡
    record { points = 3; first = p; second = l; before = l; last = x }
twice_turn x p l n t =
    ap (ends_prepend p) (put_one_other x l n) ∙ put_turn p (record { points = 2; first = l; second = x; before = l; last = x })
    (omega arith) t

twice_passed : (x p l : ℕ) → l ≢ x → IsBetween p l x →
    ends_prepend p (ends_prepend l (only_point x)) ≡ record { points = 2; first = p; second = x; before = p; last = x }
twice_passed x p l n t =
    ap (ends_prepend p) (put_one_other x l n) ∙ put_two p (record { points = 2; first = l; second = x; before = l; last = x }) refl t

pub five_same : (a b c d e a' b' c' d' e' : ℕ) → a ≡ a' → b ≡ b' → c ≡ c' → d ≡ d' → e ≡ e' →
    ◌≡◌ {A = EndPoints} (record { points = a; first = b; second = c; before = d; last = e })
    (record { points = a'; first = b'; second = c'; before = d'; last = e' })
five_same a b c d e a' b' c' d' e' p q r s t = cc

end_none : (x : ℕ) (e : EndPoints) → e.points ≡ 0 → ends_push x e ≡ only_point x
end_none x e h = grind (arith, nat_tests)

end_same : (x : ℕ) (e : EndPoints) → 1 ≤ e.points → e.last ≡ x → ends_push x e ≡ e
end_same x e h q = grind (arith, nat_tests)

end_one : (x : ℕ) (e : EndPoints) → e.points ≡ 1 → e.last ≢ x →
    ends_push x e ≡ record { points = 2; first = e.first; second = x; before = e.last; last = x }
end_one x e h q = grind (arith, nat_tests)

end_turn : (x : ℕ) (e : EndPoints) → 2 ≤ e.points → IsTurn e.before e.last x →
    ends_push x e ≡ record { points = e.points + 1; first = e.first; second = e.second; before = e.last; last = x }
end_turn x e h q = grind (arith, nat_tests)

end_two : (x : ℕ) (e : EndPoints) → e.points ≡ 2 → IsBetween e.before e.last x →
    ends_push x e ≡ record { points = 2; first = e.first; second = x; before = e.before; last = x }
end_two x e h q = grind (arith, nat_tests)

end_passed : (x : ℕ) (e : EndPoints) → 3 ≤ e.points → IsBetween e.before e.last x →
    ends_push x e ≡ record { points = e.points; first = e.first; second = e.second; before = e.before; last = x }
end_passed x e h q = grind (arith, nat_tests)

pub differs_turn : (p l x : ℕ) → IsTurn p l x → l ≢ x
differs_turn p l x t = grind arith

differs_passed : (p l x : ℕ) → IsBetween p l x → l ≢ x
differs_passed p l x t = grind arith

module _ (K x : ℕ) (e : EndPoints) (i : IsEnds K e) where
  one_same : e.points ≡ 1 → e.last ≡ x → ends_push x e ≡ ends_of_both e (only_point x)
  one_same h q = let w = i.one h in end_same x e (omega arith) q ∙ five_same _ _ _ _ _ _ _ _ _ _ h (sym w.2 ∙ q) w.0 w.1 q
      ∙ sym (ends_of_both_one e (only_point x) h ∙ put_one_same x e.last q)

  long_same : 3 ≤ e.points → e.last ≡ x → ends_push x e ≡ ends_of_both e (only_point x)
  long_same h q = end_same x e (omega arith) q ∙ five_same _ _ _ _ _ _ _ _ _ _ (omega arith) refl refl refl q
      ∙ sym (ends_of_both_long e (only_point x) h ∙ ap (long e) (twice_same x e.before e.last (i.differ (omega arith)).1 q))

  two_same : e.points ≡ 2 → e.last ≡ x → ends_push x e ≡ ends_of_both e (only_point x)
  two_same h q = let t = i.two h in end_same x e (omega arith) q ∙ five_same _ _ _ _ _ _ _ _ _ _ h (sym t.0) (sym t.1 ∙ q) refl q
      ∙ sym (ends_of_both_two e (only_point x) h ∙ twice_same x e.before e.last (i.differ (omega arith)).1 q)

  long_turn : 3 ≤ e.points → IsTurn e.before e.last x → ends_push x e ≡ ends_of_both e (only_point x)
  long_turn h t = end_turn x e (omega arith) t ∙ five_same _ _ _ _ _ _ _ _ _ _ (omega arith) refl refl refl refl
      ∙ sym (ends_of_both_long e (only_point x) h ∙ ap (long e) (twice_turn x e.before e.last (differs_turn e.before e.last x t) t))

  two_turn : e.points ≡ 2 → IsTurn e.before e.last x → ends_push x e ≡ ends_of_both e (only_point x)
  two_turn h t = let w = i.two h in end_turn x e (omega arith) t ∙ five_same _ _ _ _ _ _ _ _ _ _ (omega arith) (sym w.0) (sym w.1) refl refl
      ∙ sym (ends_of_both_two e (only_point x) h ∙ twice_turn x e.before e.last (differs_turn e.before e.last x t) t)

  long_passed : 3 ≤ e.points → IsBetween e.before e.last x → ends_push x e ≡ ends_of_both e (only_point x)
  long_passed h t = end_passed x e h t ∙ five_same _ _ _ _ _ _ _ _ _ _ (omega arith) refl refl refl refl
      ∙ sym (ends_of_both_long e (only_point x) h ∙ ap (long e) (twice_passed x e.before e.last (differs_passed e.before e.last x t) t))

  two_passed : e.points ≡ 2 → IsBetween e.before e.last x → ends_push x e ≡ ends_of_both e (only_point x)
  two_passed h t = let w = i.two h in end_two x e h t ∙ five_same _ _ _ _ _ _ _ _ _ _ refl (sym w.0) refl refl refl
      ∙ sym (ends_of_both_two e (only_point x) h ∙ twice_passed x e.before e.last (differs_passed e.before e.last x t) t)

  push_by : PushCase x e → ends_push x e ≡ ends_of_both e (only_point x)
  push_by (on_none h) = end_none x e h ∙ sym (ends_of_both_zero e (only_point x) h)
  push_by (on_equal h q) = by_one (cases_lt e.points 2)
    where
      by_two : ((e.points < 3) ⊎ (3 ≤ e.points)) → 2 ≤ e.points → ends_push x e ≡ ends_of_both e (only_point x)
      by_two (inl s) m = two_same (omega arith) (sym q)
      by_two (inr s) m = long_same s (sym q)

      by_one : ((e.points < 2) ⊎ (2 ≤ e.points)) → ends_push x e ≡ ends_of_both e (only_point x)
      by_one (inl s) = one_same (omega arith) (sym q)
      by_one (inr s) = by_two (cases_lt e.points 3) s
  push_by (on_second h n) = let w = i.one h in
      end_one x e h (λ q. n (sym q)) ∙ five_same _ _ _ _ _ _ _ _ _ _ refl (sym w.2) refl refl refl
      ∙ sym (ends_of_both_one e (only_point x) h ∙ put_one_other x e.last (λ q. n (sym q)))
  push_by (on_turn h q) = by_two (cases_lt e.points 3)
    where
      by_two : ((e.points < 3) ⊎ (3 ≤ e.points)) → ends_push x e ≡ ends_of_both e (only_point x)
      by_two (inl s) = two_turn (omega arith) q
      by_two (inr s) = long_turn s q
  push_by (on_passed h q) = by_two (cases_lt e.points 3)
    where
      by_two : ((e.points < 3) ⊎ (3 ≤ e.points)) → ends_push x e ≡ ends_of_both e (only_point x)
      by_two (inl s) = two_passed (omega arith) q
      by_two (inr s) = long_passed s q

  -- one level more is a part of that one level
  pub push_is_meets : ends_push x e ≡ ends_of_both e (only_point x)
  push_is_meets = push_by (push_case x e (λ q. (i.differ q).1))

ends_of_both_none_by : (K : ℕ) (e f : EndPoints) → IsEnds K e → IsEnds K f → Parted e.points → (ends_of_both e f).points ≡ 0 →
    (e.points ≡ 0) × (f.points ≡ 0)
ends_of_both_none_by K e f i j (left_zero h) q = let o = ap (λ g. g.points) (ends_of_both_zero e f h) in (h, omega arith)
ends_of_both_none_by K e f i j (left_one h) q =
    let o = ap (λ g. g.points) (ends_of_both_one e f h) in let p = put_first e.last f (case_of K e.last f j) in absurd (omega arith)
ends_of_both_none_by K e f i j (left_two h) q =
    let o = ap (λ g. g.points) (ends_of_both_two e f h) in let p = (twice K e f i j (omega arith)).many in absurd (omega arith)
ends_of_both_none_by K e f i j (left_long h) q =
    let o = ap (λ g. g.points) (ends_of_both_long e f h) in let p = (twice K e f i j (omega arith)).many in absurd (omega arith)

pub ends_of_both_none : (K : ℕ) (e f : EndPoints) → IsEnds K e → IsEnds K f → (ends_of_both e f).points ≡ 0 → (e.points ≡ 0)
    × (f.points ≡ 0)
ends_of_both_none K e f i j q = ends_of_both_none_by K e f i j (left_of e.points) q

last_below : (k : ℕ) (l : List ℕ) → 1 ≤ k → ((i : ℕ) → i < length l → get_or l i 0 < k) → last_point l < k
last_below k [] o h = omega arith
last_below k (x ∷ []) o h = h 0 (omega arith)
last_below k (x ∷ y ∷ l) o h = last_below k (y ∷ l) o (λ i p. h (suc i) (omega arith))

before_below : (k : ℕ) (l : List ℕ) → 1 ≤ k → ((i : ℕ) → i < length l → get_or l i 0 < k) → last_but_one l < k
before_below k [] o h = omega arith
before_below k (x ∷ []) o h = omega arith
before_below k (x ∷ y ∷ []) o h = h 0 (omega arith)
before_below k (x ∷ y ∷ z ∷ l) o h = before_below k (y ∷ z ∷ l) o (λ i p. h (suc i) (omega arith))

-- the ends of a list of points are ends
pub list_ends : (k : ℕ) (l : List ℕ) → 1 ≤ k → IsZigzag l → ((i : ℕ) → i < length l → get_or l i 0 < k) → IsEnds k (ends_of l)
list_ends k [] o z h = record {
  none = λ q. (refl, refl, refl, refl);
  one = λ q. absurd (omega arith);
  differ = λ q. absurd (omega arith);
  two = λ q. absurd (omega arith);
  three = λ q. absurd (omega arith);
  below = (omega arith, omega arith, omega arith, omega arith);
}
list_ends k (x ∷ []) o z h = let p = h 0 (omega arith) in record {
  none = λ q. absurd (omega arith);
  one = λ q. (refl, refl, refl);
  differ = λ q. absurd (omega arith);
  two = λ q. absurd (omega arith);
  three = λ q. absurd (omega arith);
  below = (p, omega arith, omega arith, p);
}
list_ends k (x ∷ y ∷ []) o (two n) h = record {
  none = λ q. absurd (omega arith);
  one = λ q. absurd (omega arith);
  differ = λ q. (n, n);
  two = λ q. (refl, refl);
  three = λ q. absurd (omega arith);
  below = (
    h 0 (omega arith),
    h 1 (omega arith),
    h 0 (omega arith),
    h 1 (omega arith),
  );
}
list_ends k (x ∷ y ∷ w ∷ []) o (inner t (two n)) h = record {
  none = λ q. absurd (omega arith);
  one = λ q. absurd (omega arith);
  differ = λ q. (ends_differ (inner t (two n)), n);
  two = λ q. absurd (omega arith);
  three = λ q. (refl, t);
  below = (h 0 (omega arith), h 1 (omega arith), h 1 (omega arith), h 2 (omega arith));
}
list_ends k (x ∷ y ∷ w ∷ v ∷ l) o z h = record {
  none = λ q. absurd (omega arith);
  one = λ q. absurd (omega arith);
  differ = λ q.
      (ends_differ z, last_differs w (v ∷ l) y (zig_tail z));
  two = λ q. absurd (omega arith);
  three = λ q. absurd (omega arith);
  below = (h 0 (omega arith), h 1 (omega arith), before_below k (x ∷ y ∷ w ∷ v ∷ l) o h, last_below k (x ∷ y ∷ w ∷ v ∷ l) o h);
}
  where
    last_differs : (a : ℕ) (l : List ℕ) (y : ℕ) → IsZigzag (y ∷ a ∷ l) → last_but_one (y ∷ a ∷ l) ≢ last_point (y ∷ a ∷ l)
    last_differs a [] y z = ends_differ z
    last_differs a (b ∷ l) y z = last_differs b l a (zig_tail z)
