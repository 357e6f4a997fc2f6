-- A level put before a list of points, and the tables.
use Rattle.std.proofs.Common.{◌≡◌, ◌≢◌, ℕ, ◌+◌, ◌-◌, ◌<◌, ◌≤◌, ◌⊎◌, inl, inr, Bool, true, false, cond, List, [], ◌∷◌, length, get_or, sum, refl, sym, ap, ◌∙◌, subst, arith, length-set}
use Rattle.std.proofs.lemmas.Bool.{cases_eq, cases_lt}
use Rattle.std.proofs.lemmas.Bool.Decides.{nat_tests}
use Rattle.turning_points.specs.Points.{IsBetween, IsTurn}
use Rattle.turning_points.specs.Pairs.{range}
use Rattle.turning_points.specs.EndPoints.{EndPoints, ends_of, IsEnds, ends_prepend}
use Rattle.turning_points.proofs.Zigzag.{Added, first, equal, second, turn, between}
use Rattle.tally.specs.tables.Tables.{raise, lower, is_at}
use Rattle.simple_counts.specs.Simple.{Agrees, decide, mark, decided_at}
use Rattle.simple_counts.specs.level_crossing.Extremes.{extremes_at, is_extreme}
use Rattle.tally.proofs.on_tables.Counting.{raise_at, lower_at, sum_raise, sum_lower}
use Rattle.turning_points.proofs.PutEnds.{case_of}
use Rattle.turning_points.proofs.Put.{PutCase, at_none, at_equal, at_second, at_turn, at_passed, put_none, put_equal, put_second, put_turn, put_two, put_passed}
use Rattle.simple_counts.proofs.PutTables.{decide_short, decide_equal, decide_turn, decide_two, decide_passed, mark_short, mark_equal, mark_turn, mark_passed}

pub range_below : (k x y : ℕ) → x < k → y < k → range x y < k
range_below k x y p q = omega arith

-- the tables stay in agreement
pub agrees_by : {A B : ℕ} {a : ℕ → ℕ} {e e' : EndPoints} {d d' m m' : List ℕ} → e' ≡ e → d' ≡ d → m' ≡ m → Agrees A B a e d m →
    Agrees A B a e' d' m'
agrees_by {A} {B} {a} {e} {e'} {d} {d'} {m} {m'} p q s g =
    subst (λ w. Agrees A B a w d' m') (sym p) (subst (λ w. Agrees A B a e w m') (sym q) (subst (λ w. Agrees A B a e d w) (sym s) g))

low_step : (a : ℕ → ℕ) (u k x y z : ℕ) → a u + 1 ≤ z → x + is_at k u ≡ y → a k ≤ y → ((u ≡ k) ⊎ (u ≢ k)) → (u ≡ k → y ≡ z) → a k ≤ x
low_step a u k x y z f e g (inl s) c = let o = c s in omega (arith, ap a s, at_one u k s)
  where
    at_one : (u k : ℕ) → u ≡ k → is_at k u ≡ 1
    at_one u k s = grind (arith, nat_tests)
low_step a u k x y z f e g (inr n) c = omega (arith, at_zero u k n)
  where
    at_zero : (u k : ℕ) → u ≢ k → is_at k u ≡ 0
    at_zero u k s = grind (arith, nat_tests)

passed_low : (a : ℕ → ℕ) (d : List ℕ) (u k : ℕ) → a u + 1 ≤ get_or d u 0 → u < length d → 1 ≤ get_or d u 0 → a k ≤ get_or d k 0 →
    ((u ≡ k) ⊎ (u ≢ k)) → a k ≤ get_or (lower d u) k 0
passed_low a d u k f q o g c = low_step a u k _ _ _ f (lower_at d u k q o) g c (λ s. ap (λ j. get_or d j 0) (sym s))

module _ (K r x A B : ℕ) (a : ℕ → ℕ) (e : EndPoints) (d m : List ℕ) (i : IsEnds K e) (h : x < K) (ld : length d ≡ K) (lm : length m ≡ K)
    (g : Agrees A B a e d m) where
  mark_sum : (b : Bool) → sum (cond b (raise m e.first) m) ≤ sum m + 1
  mark_sum true = omega (arith, sum_raise m e.first (omega (arith, i.below)))
  mark_sum false = omega arith

  agrees_turn : 2 ≤ e.points → IsTurn x e.first e.second →
      Agrees A B a (record { points = e.points + 1; first = x; second = e.first; before = e.before; last = e.last })
      (raise d (range x e.first)) (cond (is_extreme r x e.first e.second) (raise m e.first) m)
  agrees_turn p t =
      let b = i.below in
      let q : range x e.first < length d = omega (arith, range_below K x e.first h b.0) in
      record {
        sum_of = omega (arith, sum_raise d (range x e.first) q, g.sum_of);
        first = λ s. grind (arith, nat_tests, raise_at d (range x e.first) (range x e.first) q, g.above (range x e.first));
        above = λ k. omega (arith, raise_at d (range x e.first) k q, g.above k);
        few = omega (arith, mark_sum (is_extreme r x e.first e.second), g.few);
      }

  agrees_passed : 3 ≤ e.points → IsBetween x e.first e.second →
      Agrees A B a (record { points = e.points; first = x; second = e.second; before = e.before; last = e.last })
      (raise (lower d (range e.first e.second)) (range x e.second)) m
  agrees_passed p t =
      let b = i.below in
      let u = range e.first e.second in
      let v = range x e.second in
      let f = g.first p in
      let q : u < length d = omega (arith, range_below K e.first e.second b.0 b.1) in
      let n = length-set d u (get_or d u 0 - 1) in
      let w : v < length (lower d u) = omega (arith, n, range_below K x e.second h b.1) in
      let o : 1 ≤ get_or d u 0 = omega arith in
      record {
        sum_of = omega (arith, sum_raise (lower d u) v w, sum_lower d u q o, g.sum_of);
        first = λ s. let z = passed_low a d u v f q o (g.above v) (cases_eq u v) in grind (arith, nat_tests, raise_at (lower d u) v v w);
        above = λ k. omega (arith, raise_at (lower d u) v k w, passed_low a d u k f q o (g.above k) (cases_eq u k));
        few = g.few;
      }

  agrees_between : 2 ≤ e.points → IsBetween x e.first e.second → ((e.points < 3) ⊎ (3 ≤ e.points)) →
      Agrees A B a (ends_prepend x e) (decide x e d) (mark r x e m)
  agrees_between p b (inl s) =
      let q : e.points ≡ 2 = omega arith in
      agrees_by (put_two x e q b) (decide_two x e d q b) (mark_passed r x e m b)
      (record { sum_of = g.sum_of; first = λ s. absurd (omega arith); above = g.above; few = g.few })
  agrees_between p b (inr s) = agrees_by (put_passed x e s b) (decide_passed x e d s b) (mark_passed r x e m b) (agrees_passed s b)

  agrees_case : PutCase x e → Agrees A B a (ends_prepend x e) (decide x e d) (mark r x e m)
  agrees_case (at_none p) =
      let q : e.points < 2 = omega arith in
      agrees_by (put_none x e p) (decide_short x e d q) (mark_short r x e m q)
      (record { sum_of = omega (arith, g.sum_of); first = λ s. absurd (omega arith); above = g.above; few = omega (arith, g.few) })
  agrees_case (at_equal p q) = agrees_by (put_equal x e p q) (decide_equal x e d q) (mark_equal r x e m q) g
  agrees_case (at_second p n) =
      let q : e.points < 2 = omega arith in
      agrees_by (put_second x e p n) (decide_short x e d q) (mark_short r x e m q)
      (record { sum_of = omega (arith, g.sum_of); first = λ s. absurd (omega arith); above = g.above; few = omega (arith, g.few) })
  agrees_case (at_turn p t) = agrees_by (put_turn x e p t) (decide_turn x e d p t) (mark_turn r x e m p t) (agrees_turn p t)
  agrees_case (at_passed p b) = agrees_between p b (cases_lt e.points 3)

  pub put_agrees : Agrees A B a (ends_prepend x e) (decide x e d) (mark r x e m)
  put_agrees = agrees_case (case_of K x e i)

length_mark : (m : List ℕ) (b : Bool) (j : ℕ) → length (cond b (raise m j) m) ≡ length m
length_mark m true j = length-set m j (get_or m j 0 + 1)
length_mark m false j = refl

-- the tables keep their lengths
decide_length_case : (x : ℕ) (e : EndPoints) (t : List ℕ) → PutCase x e → length (decide x e t) ≡ length t
decide_length_case x e t (at_none p) = ap length (decide_short x e t (omega arith))
decide_length_case x e t (at_equal p q) = ap length (decide_equal x e t q)
decide_length_case x e t (at_second p q) = ap length (decide_short x e t (omega arith))
decide_length_case x e t (at_turn p q) = ap length (decide_turn x e t p q) ∙ length-set t _ _
decide_length_case x e t (at_passed p q) = pick (cases_lt e.points 3)
  where
    pick : ((e.points < 3) ⊎ (3 ≤ e.points)) → length (decide x e t) ≡ length t
    pick (inl s) = ap length (decide_two x e t (omega arith) q)
    pick (inr s) = ap length (decide_passed x e t s q) ∙ length-set (lower t (range e.first e.second)) _ _ ∙ length-set t _ _

pub decide_length : (K x : ℕ) (e : EndPoints) (t : List ℕ) → IsEnds K e → length (decide x e t) ≡ length t
decide_length K x e t i = decide_length_case x e t (case_of K x e i)

mark_length_case : (r x : ℕ) (e : EndPoints) (t : List ℕ) → PutCase x e → length (mark r x e t) ≡ length t
mark_length_case r x e t (at_none p) = ap length (mark_short r x e t (omega arith))
mark_length_case r x e t (at_equal p q) = ap length (mark_equal r x e t q)
mark_length_case r x e t (at_second p q) = ap length (mark_short r x e t (omega arith))
mark_length_case r x e t (at_turn p q) = ap length (mark_turn r x e t p q) ∙ length_mark t (is_extreme r x e.first e.second) e.first
mark_length_case r x e t (at_passed p q) = ap length (mark_passed r x e t q)

pub mark_length : (K r x : ℕ) (e : EndPoints) (t : List ℕ) → IsEnds K e → length (mark r x e t) ≡ length t
mark_length K r x e t i = mark_length_case r x e t (case_of K x e i)

-- the tables count what the points have
pub record At (K r : ℕ) (a b : ℕ → ℕ) (l d m : List ℕ) : Type 0 where
  pub decided : (k : ℕ) → k < K → get_or d k 0 ≡ a k + decided_at k l
  pub extremes : (k : ℕ) → k < K → get_or m k 0 ≡ b k + extremes_at r k l

module _ (K r : ℕ) (a b : ℕ → ℕ) (d m : List ℕ) (ld : length d ≡ K) (lm : length m ≡ K) where
  at_to : {l d' m' : List ℕ} → d' ≡ d → m' ≡ m → At K r a b l d m → At K r a b l d' m'
  at_to {l} {d'} {m'} p q g = subst (λ t. At K r a b l t m') (sym p) (subst (λ t. At K r a b l d t) (sym q) g)

  marked : (x y z k : ℕ) (l : List ℕ) (t : Bool) → y < K → get_or m k 0 ≡ b k + extremes_at r k (y ∷ z ∷ l) →
      get_or (cond t (raise m y) m) k 0 ≡ b k + (cond t (is_at k y) 0 + extremes_at r k (y ∷ z ∷ l))
  marked x y z k l true h e = omega (arith, raise_at m y k (omega arith))
  marked x y z k l false h e = omega arith

  at_turned : (x y z : ℕ) (l : List ℕ) → IsTurn x y z → x < K → y < K → At K r a b (y ∷ z ∷ l) d m →
      At K r a b (x ∷ y ∷ z ∷ l) (decide x (ends_of (y ∷ z ∷ l)) d) (mark r x (ends_of (y ∷ z ∷ l)) m)
  at_turned x y z l t p q g =
      let s : 2 ≤ length (y ∷ z ∷ l) = omega arith in
      let u : range x y < length d = omega (arith, range_below K x y p q) in
      let e = decide_turn x (ends_of (y ∷ z ∷ l)) d s t in
      let f = mark_turn r x (ends_of (y ∷ z ∷ l)) m s t in
      record {
        decided = λ k h. omega (arith, ap (λ w. get_or w k 0) e, raise_at d (range x y) k u, g.decided k h);
        extremes = λ k h. ap (λ w. get_or w k 0) f ∙ marked x y z k l (is_extreme r x y z) q (g.extremes k h);
      }

  same_extreme : (x y z c k : ℕ) → IsBetween x y z → cond (is_extreme r x z c) (is_at k z) 0 ≡ cond (is_extreme r y z c) (is_at k z) 0
  same_extreme x y z c k t = grind (arith, nat_tests)

  at_two : (x y z : ℕ) → IsBetween x y z → At K r a b (y ∷ z ∷ []) d m →
      At K r a b (x ∷ z ∷ []) (decide x (ends_of (y ∷ z ∷ [])) d) (mark r x (ends_of (y ∷ z ∷ [])) m)
  at_two x y z t g =
      let e = decide_two x (ends_of (y ∷ z ∷ [])) d refl t in
      let f = mark_passed r x (ends_of (y ∷ z ∷ [])) m t in
      record { decided = λ k h. ap (λ w. get_or w k 0) e ∙ g.decided k h; extremes = λ k h. ap (λ w. get_or w k 0) f ∙ g.extremes k h }

  at_passed_on : (x y z c : ℕ) (l : List ℕ) → IsBetween x y z → x < K → y < K → z < K → At K r a b (y ∷ z ∷ c ∷ l) d m →
      At K r a b (x ∷ z ∷ c ∷ l) (decide x (ends_of (y ∷ z ∷ c ∷ l)) d) (mark r x (ends_of (y ∷ z ∷ c ∷ l)) m)
  at_passed_on x y z c l t p q o g =
      let s : 3 ≤ length (y ∷ z ∷ c ∷ l) = omega arith in
      let e = decide_passed x (ends_of (y ∷ z ∷ c ∷ l)) d s t in
      let f = mark_passed r x (ends_of (y ∷ z ∷ c ∷ l)) m t in
      let u : range y z < length d = omega (arith, range_below K y z q o) in
      let n = length-set d (range y z) (get_or d (range y z) 0 - 1) in
      let v : range x z < length (lower d (range y z)) = omega (arith, n, range_below K x z p o) in
      let i = g.decided (range y z) (omega arith) in
      let j : 1 ≤ get_or d (range y z) 0 = grind (arith, nat_tests) in
      record {
        decided = λ k h. omega (
          arith,
          ap (λ w. get_or w k 0) e,
          raise_at (lower d (range y z)) (range x z) k v,
          lower_at d (range y z) k u
              j,
          g.decided k h,
        );
        extremes = λ k h. omega (arith, ap (λ w. get_or w k 0) f, g.extremes k h, same_extreme x y z c k t);
      }

  pub at_added : {x : ℕ} {l n : List ℕ} → Added x l n → x < K → IsEnds K (ends_of l) → At K r a b l d m →
      At K r a b n (decide x (ends_of l) d) (mark r x (ends_of l) m)
  at_added {x} first h w g = at_to (decide_short x (ends_of []) d (omega arith)) (mark_short r x (ends_of []) m (omega arith))
      (record { decided = g.decided; extremes = g.extremes })
  at_added {x} (equal {y = y} {l = l} e) h w g = at_to (decide_equal x (ends_of (y ∷ l)) d e) (mark_equal r x (ends_of (y ∷ l)) m e) g
  at_added {x} (second {y = y} n) h w g = at_to (decide_short x (ends_of (y ∷ [])) d (omega arith))
      (mark_short r x (ends_of (y ∷ [])) m (omega arith)) (record { decided = g.decided; extremes = g.extremes })
  at_added {x} (turn {y = y} {z = z} {l = l} t) h w g = at_turned x y z l t h w.below.0 g
  at_added {x} (between {y = y} {z = z} {l = []} t) h w g = at_two x y z t g
  at_added {x} (between {y = y} {z = z} {l = c ∷ l} t) h w g = at_passed_on x y z c l t h w.below.0 w.below.1 g
