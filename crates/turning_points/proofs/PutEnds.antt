-- A level put before a list of points, and the tables.
use Rattle.std.proofs.Common.{◌≡◌, ◌≢◌, ℕ, ◌+◌, ◌<◌, ◌≤◌, ◌⊎◌, inl, inr, refl, sym, subst, arith}
use Rattle.std.proofs.lemmas.Bool.{cases_lt}
use Rattle.turning_points.specs.Points.{IsBetween, IsTurn}
use Rattle.turning_points.specs.EndPoints.{EndPoints, IsEnds, ends_prepend}
use Rattle.turning_points.proofs.Put.{PutCase, at_none, at_equal, at_second, at_turn, at_passed, put_case, put_none, put_equal, put_second, put_turn, put_two, put_passed}

-- the ends stay ends
ends_two : (K x : ℕ) (e : EndPoints) → IsEnds K e → x < K → e.points ≡ 2 → IsBetween x e.first e.second →
    IsEnds K (record { points = e.points; first = x; second = e.second; before = x; last = e.last })
ends_two K x e i h p b = record {
  none = λ q. absurd (omega arith);
  one = λ q. absurd (omega arith);
  differ = λ q. let t = i.two p in let n : x ≢ e.second = grind arith in let l : x ≢ e.last = grind arith in (n, l);
  two = λ q. let t = i.two p in (refl, t.1);
  three = λ q. absurd (omega arith);
  below = (h, i.below.1, h, i.below.3);
}

turn_far : (x a b c : ℕ) → IsBetween x a b → IsTurn a b c → IsTurn x b c
turn_far x a b c p q = grind arith

pub between_differs : (x a b : ℕ) → IsBetween x a b → x ≢ b
between_differs x a b p = grind arith

ends_passed : (K x : ℕ) (e : EndPoints) → IsEnds K e → x < K → 3 ≤ e.points → IsBetween x e.first e.second →
    IsEnds K (record { points = e.points; first = x; second = e.second; before = e.before; last = e.last })
ends_passed K x e i h p b = record {
  none = λ q. absurd (omega arith);
  one = λ q. absurd (omega arith);
  differ = λ q. (between_differs x e.first e.second b, (i.differ (omega arith)).1);
  two = λ q. absurd (omega arith);
  three = λ q. let t = i.three q in (t.0, turn_far x e.first e.second e.last b t.1);
  below = (h, i.below.1, i.below.2, i.below.3);
}

three_turn : (x a b c d : ℕ) → IsTurn x a b → c ≡ a → d ≡ b → (c ≡ a) × IsTurn x a d
three_turn x a b c d t p q = (p, subst (IsTurn x a) (sym q) t)

pub turn_differs : (x a b : ℕ) → IsTurn x a b → x ≢ a
turn_differs x a b p = grind arith

ends_turn : (K x : ℕ) (e : EndPoints) → IsEnds K e → x < K → 2 ≤ e.points → IsTurn x e.first e.second →
    IsEnds K (record { points = e.points + 1; first = x; second = e.first; before = e.before; last = e.last })
ends_turn K x e i h p t = record {
  none = λ q. absurd (omega arith);
  one = λ q. absurd (omega arith);
  differ = λ q. (turn_differs x e.first e.second t, (i.differ (omega arith)).1);
  two = λ q. absurd (omega arith);
  three = λ q. let w = i.two (omega arith) in three_turn x e.first e.second e.before e.last t w.0 w.1;
  below = (h, i.below.0, i.below.2, i.below.3);
}

ends_none : (K x : ℕ) → x < K → IsEnds K (record { points = 1; first = x; second = 0; before = 0; last = x })
ends_none K x h = record {
  none = λ q. absurd (omega arith);
  one = λ q. (refl, refl, refl);
  differ = λ q. absurd (omega arith);
  two = λ q. absurd (omega arith);
  three = λ q. absurd (omega arith);
  below = (h, omega arith, omega arith, h);
}

ends_second : (K x a : ℕ) → x < K → a < K → x ≢ a → IsEnds K (record { points = 2; first = x; second = a; before = x; last = a })
ends_second K x a h g n = record {
  none = λ q. absurd (omega arith);
  one = λ q. absurd (omega arith);
  differ = λ q. (n, n);
  two = λ q. (refl, refl);
  three = λ q. absurd (omega arith);
  below = (h, g, h, g);
}

ends_between : (K x : ℕ) (e : EndPoints) → IsEnds K e → x < K → 2 ≤ e.points → IsBetween x e.first e.second →
    ((e.points < 3) ⊎ (3 ≤ e.points)) → IsEnds K (ends_prepend x e)
ends_between K x e i h p b (inl s) = let q : e.points ≡ 2 = omega arith in subst (IsEnds K) (sym (put_two x e q b)) (ends_two K x e i h q b)
ends_between K x e i h p b (inr s) = subst (IsEnds K) (sym (put_passed x e s b)) (ends_passed K x e i h s b)

ends_case : (K x : ℕ) (e : EndPoints) → IsEnds K e → x < K → PutCase x e → IsEnds K (ends_prepend x e)
ends_case K x e i h (at_none p) = subst (IsEnds K) (sym (put_none x e p)) (ends_none K x h)
ends_case K x e i h (at_equal p q) = subst (IsEnds K) (sym (put_equal x e p q)) i
ends_case K x e i h (at_second p q) = subst (IsEnds K) (sym (put_second x e p q)) (ends_second K x e.first h i.below.0 q)
ends_case K x e i h (at_turn p t) = subst (IsEnds K) (sym (put_turn x e p t)) (ends_turn K x e i h p t)
ends_case K x e i h (at_passed p b) = ends_between K x e i h p b (cases_lt e.points 3)

pub case_of : (K x : ℕ) (e : EndPoints) → IsEnds K e → PutCase x e
case_of K x e i = put_case x e (λ h. (i.differ h).0)

pub put_ends : (K x : ℕ) (e : EndPoints) → IsEnds K e → x < K → IsEnds K (ends_prepend x e)
put_ends K x e i h = ends_case K x e i h (case_of K x e i)
