-- One level more behind a value: the rules, and the histories.
use Rattle.std.proofs.Common.{◌≡◌, ◌≢◌, ℕ, ◌+◌, ◌<◌, ◌≤◌, ◌⊎◌, inl, inr, Bool, true, false, cond, eqb, List, [], ◌∷◌, ◌++◌, length, get_or, sum, refl, sym, ap, ◌∙◌, subst, arith, length-set, length-append, append_assoc}
use Rattle.std.proofs.lemmas.Bool.{cases_eq, cases_lt}
use Rattle.std.proofs.lemmas.Bool.Decides.{nat_tests}
use Rattle.turning_points.specs.Points.{points, IsBetween, IsTurn, OnSide}
use Rattle.turning_points.specs.Pairs.{range}
use Rattle.turning_points.specs.EndPoints.{EndPoints, ends_of, IsEnds}
use Rattle.turning_points.proofs.Zigzag.{IsZigzag, zig_points}
use Rattle.turning_points.proofs.Over.{points_inside}
use Rattle.turning_points.proofs.Joining.{tail, last_behind, before_behind}
use Rattle.turning_points.proofs.Push.{two_levels, same_level, push_turn, push_between, push_equal, end_differs}
use Rattle.tally.specs.tables.Tables.{raise, is_at}
use Rattle.simple_counts.specs.Simple.{decided_at, SimpleValue, CountsHistory, IsSimple, push_of}
use Rattle.simple_counts.specs.level_crossing.Extremes.{extremes_at, is_extreme}
use Rattle.tally.proofs.on_tables.Counting.{raise_at, sum_raise}
use Rattle.simple_counts.proofs.Triples.{triples_join, range_side, extreme_side}
use Rattle.simple_counts.proofs.PutLists.{range_below}
use Rattle.turning_points.specs.declared.ends.TheConstants.{MAX_POINTS}
use Rattle.turning_points.proofs.Put.{side_self}
use Rattle.turning_points.proofs.PushEnds.{PushCase, on_none, on_equal, on_second, on_turn, on_passed, push_case, five_same, differs_turn}
use Rattle.simple_counts.proofs.ZeroRange.{range_positive, zero_set}

-- what a push makes of a value, by cases
abbrev value : ℕ → ℕ → EndPoints → List ℕ → List ℕ → SimpleValue
value K r e d m = record { classes = K; reference = r; ends = e; decided = d; extremes = m }

pub push_none : (x : ℕ) (v : SimpleValue) → v.ends.points ≡ 0 →
    push_of x v ≡ value v.classes v.reference (record { points = 1; first = x; second = 0; before = 0; last = x }) v.decided v.extremes
push_none x v h = grind (arith, nat_tests)

pub push_equal_to : (x : ℕ) (v : SimpleValue) → 1 ≤ v.ends.points → x ≡ v.ends.last → push_of x v ≡ v
push_equal_to x v h q = grind (arith, nat_tests)

pub push_second : (x : ℕ) (v : SimpleValue) → v.ends.points ≡ 1 → x ≢ v.ends.last →
    push_of x v ≡ value v.classes v.reference (record { points = 2; first = v.ends.first; second = x; before = v.ends.last; last = x })
    v.decided v.extremes
push_second x v h q = grind (arith, nat_tests)

pub push_at_turn : (x : ℕ) (v : SimpleValue) → 2 ≤ v.ends.points → IsTurn v.ends.before v.ends.last x →
    push_of x v ≡ value v.classes v.reference (record {
      points = v.ends.points + 1;
      first = v.ends.first;
      second = v.ends.second;
      before = v.ends.last;
      last = x;
    }) (raise v.decided (range v.ends.before v.ends.last))
    (cond (is_extreme v.reference v.ends.before v.ends.last x) (raise v.extremes v.ends.last) v.extremes)
push_at_turn x v h q = grind (arith, nat_tests)

pub push_on : (x : ℕ) (v : SimpleValue) → 2 ≤ v.ends.points → IsBetween v.ends.before v.ends.last x →
    push_of x v ≡ value v.classes v.reference (record {
      points = v.ends.points;
      first = v.ends.first;
      second = cond (eqb v.ends.points 2) x
          v.ends.second;
      before = v.ends.before;
      last = x;
    }) v.decided v.extremes
push_on x v h q = grind (arith, nat_tests)

module _ (v : SimpleValue) (x : ℕ) (i : IsSimple v) (h : x < v.classes) (p : v.ends.points + 1 ≤ MAX_POINTS) where
  rules_none : v.ends.points ≡ 0 → IsSimple (value v.classes v.reference
      (record { points = 1; first = x; second = 0; before = 0; last = x }) v.decided v.extremes)
  rules_none q = record {
    classes = i.classes;
    reference = i.reference;
    decided = i.decided;
    extremes = i.extremes;
    ends = record {
      none = λ s. absurd (omega arith);
      one = λ s. (refl, refl, refl);
      differ = λ s. absurd (omega arith);
      two = λ s. absurd (omega arith);
      three = λ s. absurd (omega arith);
      below = (h, omega arith, omega arith, h);
    };
    agrees = record {
      sum_of = omega (arith, i.agrees.sum_of);
      first = λ s. absurd (omega arith);
      above = λ k. omega arith;
      few = omega (arith, i.agrees.few);
    };
    few = omega arith;
    none_at_zero = i.none_at_zero;
  }

  rules_second : v.ends.points ≡ 1 → x ≢ v.ends.last →
      IsSimple (value v.classes v.reference (record { points = 2; first = v.ends.first; second = x; before = v.ends.last; last = x })
      v.decided v.extremes)
  rules_second q n =
      let o = i.ends.one q in
      record {
        classes = i.classes;
        reference = i.reference;
        decided = i.decided;
        extremes = i.extremes;
        ends = record {
          none = λ s. absurd (omega arith);
          one = λ s. absurd (omega arith);
          differ = λ s. (λ w. n (sym w ∙ sym o.2), λ w. n (sym w));
          two = λ s. (o.2, refl);
          three = λ s. absurd (omega arith);
          below = (i.ends.below.0, h, i.ends.below.3, h);
        };
        agrees = record {
          sum_of = omega (arith, i.agrees.sum_of);
          first = λ s. absurd (omega arith);
          above = λ k. omega arith;
          few = omega (arith, i.agrees.few);
        };
        few = omega arith;
        none_at_zero = i.none_at_zero;
      }

  marks_length : (b : Bool) → length (cond b (raise v.extremes v.ends.last) v.extremes) ≡ v.classes
  marks_length true = length-set v.extremes v.ends.last _ ∙ i.extremes
  marks_length false = i.extremes

  marks_sum : (b : Bool) → sum (cond b (raise v.extremes v.ends.last) v.extremes) ≤ sum v.extremes + 1
  marks_sum true = omega (arith, sum_raise v.extremes v.ends.last (omega (arith, i.ends.below, i.extremes)))
  marks_sum false = omega arith

  turn_at_three : (a b c d y : ℕ) → IsTurn c d y → c ≡ a → d ≡ b → (d ≡ b) × IsTurn a b y
  turn_at_three a b c d y t m n = (n, subst (λ w. IsTurn w b y) m (subst (λ w. IsTurn c w y) n t))

  rules_turn : 2 ≤ v.ends.points → IsTurn v.ends.before v.ends.last x →
      IsSimple (value v.classes v.reference (record {
        points = v.ends.points + 1;
        first = v.ends.first;
        second = v.ends.second;
        before = v.ends.last;
        last = x;
      }) (raise v.decided (range v.ends.before v.ends.last))
      (cond (is_extreme v.reference v.ends.before v.ends.last x) (raise v.extremes v.ends.last) v.extremes))
  rules_turn q t =
      let w = i.ends.below in
      let u : range v.ends.before v.ends.last < length v.decided = omega (
        arith,
        i.decided,
        range_below v.classes v.ends.before
            v.ends.last w.2 w.3,
      ) in
      record {
        classes = i.classes;
        reference = i.reference;
        decided = length-set v.decided (range v.ends.before v.ends.last) _ ∙ i.decided;
        extremes = marks_length (is_extreme v.reference v.ends.before v.ends.last x);
        ends = record {
          none = λ s. absurd (omega arith);
          one = λ s. absurd (omega arith);
          differ = λ s. ((i.ends.differ q).0, differs_turn v.ends.before v.ends.last x t);
          two = λ s. absurd (omega arith);
          three = λ s. let o = i.ends.two (omega arith) in turn_at_three v.ends.first v.ends.second v.ends.before v.ends.last x t o.0 o.1;
          below = (w.0, w.1, w.3, h);
        };
        agrees = record {
          sum_of = omega (arith, i.agrees.sum_of, sum_raise v.decided (range v.ends.before v.ends.last) u);
          first = λ s. turn_first u (cases_lt v.ends.points 3) q;
          above = λ k. omega arith;
          few = omega (arith, i.agrees.few, marks_sum (is_extreme v.reference v.ends.before v.ends.last x));
        };
        few = omega arith;
        none_at_zero = zero_set v.decided (range v.ends.before v.ends.last) _ (range_positive v.ends.before v.ends.last (i.ends.differ q).1)
            i.none_at_zero;
      }
    where
      one_there : (a b c d : ℕ) → a ≡ c → b ≡ d → 1 ≤ is_at (range c d) (range a b)
      one_there a b c d m n = grind (arith, nat_tests)

      turn_first : range v.ends.before v.ends.last < length v.decided → ((v.ends.points < 3) ⊎ (3 ≤ v.ends.points)) → 2 ≤ v.ends.points →
          0 + 1 ≤ get_or (raise v.decided (range v.ends.before v.ends.last)) (range v.ends.first v.ends.second) 0
      turn_first u (inl s) q = let o = i.ends.two (omega arith) in omega (
        arith,
        raise_at v.decided (range v.ends.before v.ends.last)
            (range v.ends.first v.ends.second) u,
        one_there v.ends.before v.ends.last v.ends.first v.ends.second o.0 o.1,
      )
      turn_first u (inr s) q = omega (
        arith,
        raise_at v.decided (range v.ends.before v.ends.last) (range v.ends.first v.ends.second) u,
        i.agrees.first s,
      )

  second_two : v.ends.points ≡ 2 → cond (eqb v.ends.points 2) x v.ends.second ≡ x
  second_two q = grind (arith, nat_tests)

  second_long : 3 ≤ v.ends.points → cond (eqb v.ends.points 2) x v.ends.second ≡ v.ends.second
  second_long q = grind (arith, nat_tests)

  far : (a b c : ℕ) → IsBetween a b c → (a ≢ c)
  far a b c t = grind arith

  turn_far : (a b c y : ℕ) → IsTurn a b c → IsBetween b c y → IsTurn a b y
  turn_far a b c y t w = grind arith

  on_ends : 2 ≤ v.ends.points → IsBetween v.ends.before v.ends.last x → (s : ℕ) → (v.ends.points ≡ 2 → s ≡ x) →
      (3 ≤ v.ends.points → s ≡ v.ends.second) → s < v.classes →
      IsEnds v.classes (record { points = v.ends.points; first = v.ends.first; second = s; before = v.ends.before; last = x })
  on_ends q t s a b c = record {
    none = λ w. absurd (omega arith);
    one = λ w. absurd (omega arith);
    differ = λ w. (on_differ (cases_lt v.ends.points 3), far v.ends.before v.ends.last x t);
    two = λ w. ((i.ends.two w).0, sym (a w));
    three = λ w. let m : 3 ≤ v.ends.points = omega arith in on_three (b m) (i.ends.three w);
    below = (i.ends.below.0, c, i.ends.below.2, h);
  }
    where
      on_differ : ((v.ends.points < 3) ⊎ (3 ≤ v.ends.points)) → v.ends.first ≢ s
      on_differ (inl w) = let m : v.ends.points ≡ 2 = omega arith in λ z. far v.ends.before v.ends.last x t ((i.ends.two m).0 ∙ z ∙ a m)
      on_differ (inr w) = λ z. (i.ends.differ q).0 (z ∙ b w)

      on_three : s ≡ v.ends.second → (v.ends.before ≡ v.ends.second) × IsTurn v.ends.first v.ends.second v.ends.last →
          (v.ends.before ≡ s) × IsTurn v.ends.first s x
      on_three e g = (
        g.0 ∙ sym e,
        subst (λ w. IsTurn v.ends.first w x) (sym e)
            (turn_far v.ends.first v.ends.second v.ends.last x g.1 (subst (λ w. IsBetween w v.ends.last x) g.0 t)),
      )

  rules_on : 2 ≤ v.ends.points → IsBetween v.ends.before v.ends.last x → (s : ℕ) → (v.ends.points ≡ 2 → s ≡ x) →
      (3 ≤ v.ends.points → s ≡ v.ends.second) → s < v.classes →
      IsSimple (value v.classes v.reference (record {
        points = v.ends.points;
        first = v.ends.first;
        second = s;
        before = v.ends.before;
        last = x;
      }) v.decided v.extremes)
  rules_on q t s a b c = record {
    classes = i.classes;
    reference = i.reference;
    decided = i.decided;
    extremes = i.extremes;
    ends = on_ends q t s a b c;
    agrees = record {
      sum_of = i.agrees.sum_of;
      first = λ w. subst (λ z. 0 + 1 ≤ get_or v.decided (range v.ends.first z) 0) (sym (b w))
          (i.agrees.first w);
      above = λ k. omega arith;
      few = i.agrees.few;
    };
    few = i.few;
    none_at_zero = i.none_at_zero;
  }

  second_below : (b : Bool) → cond b x v.ends.second < v.classes
  second_below true = h
  second_below false = i.ends.below.1

  rules_case : PushCase x v.ends → IsSimple (push_of x v)
  rules_case (on_none q) = subst IsSimple (sym (push_none x v q)) (rules_none q)
  rules_case (on_equal q n) = subst IsSimple (sym (push_equal_to x v q n)) i
  rules_case (on_second q n) = subst IsSimple (sym (push_second x v q n)) (rules_second q n)
  rules_case (on_turn q t) = subst IsSimple (sym (push_at_turn x v q t)) (rules_turn q t)
  rules_case (on_passed q t) = subst IsSimple (sym (push_on x v q t)) (rules_on q t _ second_two second_long
      (second_below (eqb v.ends.points 2)))

  -- the rules are kept by a push onto any value that meets them
  pub pushed_counted : IsSimple (push_of x v)
  pushed_counted = rules_case (push_case x v.ends (λ q. (i.ends.differ q).1))

-- a value stands for a list of points
pub record On (v : SimpleValue) (l : List ℕ) : Type 0 where
  pub ends : v.ends ≡ ends_of l
  pub decided : (k : ℕ) → k < v.classes → get_or v.decided k 0 ≡ decided_at k l
  pub extremes : (k : ℕ) → k < v.classes → get_or v.extremes k 0 ≡ extremes_at v.reference k l

on_to : (v w : SimpleValue) (l : List ℕ) → w ≡ v → On v l → On w l
on_to v w l e o = subst (λ z. On z l) (sym e) o

first_same : (f : List ℕ) (p z : ℕ) (t : List ℕ) → get_or (f ++ (p ∷ z ∷ t)) 0 0 ≡ get_or (f ++ (p ∷ z ∷ [])) 0 0
first_same [] p z t = refl
first_same (a ∷ f) p z t = refl

second_same : (f : List ℕ) (p z : ℕ) (t : List ℕ) → get_or (f ++ (p ∷ z ∷ t)) 1 0 ≡ get_or (f ++ (p ∷ z ∷ [])) 1 0
second_same [] p z t = refl
second_same (a ∷ []) p z t = refl
second_same (a ∷ b ∷ f) p z t = refl

first_other : (f : List ℕ) (p y z : ℕ) → get_or (f ++ (p ∷ y ∷ [])) 0 0 ≡ get_or (f ++ (p ∷ z ∷ [])) 0 0
first_other [] p y z = refl
first_other (a ∷ f) p y z = refl

second_other : (f : List ℕ) (p y z : ℕ) → get_or (f ++ (p ∷ y ∷ [])) 1 0 ≡ cond (eqb (length (f ++ (p ∷ z ∷ []))) 2) y
    (get_or (f ++ (p ∷ z ∷ [])) 1 0)
second_other [] p y z = refl
second_other (a ∷ []) p y z = grind (arith, nat_tests)
second_other (a ∷ b ∷ f) p y z = grind (arith, nat_tests, length-append f (p ∷ z ∷ []))

same_on : (p z x : ℕ) → IsBetween p z x → OnSide p z x
same_on p z x n = grind arith

module _ (v : SimpleValue) (x : ℕ) (i : IsSimple v) (h : x < v.classes) where
  on_empty : On v [] → On (push_of x v) (x ∷ [])
  on_empty o =
      let p = ap (λ e. e.points) o.ends in
      on_to _ _ _ (push_none x v p) (record { ends = refl; decided = λ k w. o.decided k w; extremes = λ k w. o.extremes k w })

  on_single : (y : ℕ) → On v (y ∷ []) → ((x ≡ y) ⊎ (x ≢ y)) → On (push_of x v) (points (y ∷ x ∷ []))
  on_single y o (inl e) =
      let p = ap (λ e. e.points) o.ends in
      let q = ap (λ e. e.last) o.ends in
      on_to _ _ _ (push_equal_to x v (omega arith) (e ∙ sym q)) (subst (On v) (sym (same_level y x (sym e))) o)
  on_single y o (inr n) =
      let p = ap (λ e. e.points) o.ends in
      let q = ap (λ e. e.last) o.ends in
      let f = ap (λ e. e.first) o.ends in
      on_to _ _ _ (push_second x v p (λ e. n (e ∙ q)))
      (subst (λ l. On (value v.classes v.reference (record { points = 2; first = v.ends.first; second = x; before = v.ends.last; last = x })
      v.decided v.extremes) l) (sym (two_levels y x (λ e. n (sym e))))
      (record {
        ends = five_same 2 v.ends.first x v.ends.last x 2 y x y x refl f refl q refl;
        decided = λ k w. o.decided k w;
        extremes = λ k w. o.extremes k w;
      }))

  mark_at : (k : ℕ) (b : Bool) → v.ends.last < length v.extremes →
      get_or (cond b (raise v.extremes v.ends.last) v.extremes) k 0 ≡ get_or v.extremes k 0 + cond b (is_at k v.ends.last) 0
  mark_at k true w = raise_at v.extremes v.ends.last k w
  mark_at k false w = omega arith

  module _ (f : List ℕ) (p z : ℕ) (o : On v (f ++ (p ∷ z ∷ []))) (y : IsZigzag (f ++ (p ∷ z ∷ []))) where
    is_before : v.ends.before ≡ p
    is_before = ap (λ e. e.before) o.ends ∙ before_behind f p z []

    is_last : v.ends.last ≡ z
    is_last = ap (λ e. e.last) o.ends ∙ last_behind f p z []

    on_long_equal : x ≡ z → 1 ≤ v.ends.points → On (push_of x v) (points (f ++ (p ∷ z ∷ x ∷ [])))
    on_long_equal e q = on_to _ _ _ (push_equal_to x v q (e ∙ sym is_last)) (subst (On v) (sym (push_equal f p z x y (sym e))) o)

    on_long_turn : 2 ≤ v.ends.points → IsTurn v.ends.before v.ends.last x → On (push_of x v) (points (f ++ (p ∷ z ∷ x ∷ [])))
    on_long_turn q t =
        let t' : IsTurn p z x = subst (λ a. IsTurn a z x) is_before (subst (λ a. IsTurn v.ends.before a x) is_last t) in
        let w = i.ends.below in
        let u : range v.ends.before v.ends.last < length v.decided = omega
        (arith, i.decided, range_below v.classes v.ends.before v.ends.last w.2 w.3) in
        let m : v.ends.last < length v.extremes = omega (arith, i.extremes) in
        let d = side_self p z (end_differs f p z y) in
        let g : On (value v.classes v.reference (record {
          points = v.ends.points + 1;
          first = v.ends.first;
          second = v.ends.second;
          before = v.ends.last;
          last = x;
        }) (raise v.decided (range v.ends.before v.ends.last))
        (cond (is_extreme v.reference v.ends.before v.ends.last x) (raise v.extremes v.ends.last) v.extremes))
        (f ++ (p ∷ z ∷ x ∷ [])) = record {
          ends = five_same _ _ _ _ _ _ _ _ _ _ (omega (
            arith,
            ap (λ e. e.points) o.ends,
            length-append f (p ∷ z ∷ []),
            length-append f (p ∷ z ∷ x ∷ []),
          )) (ap (λ e. e.first) o.ends ∙ sym (first_same f p z (x ∷ [])))
              (ap (λ e. e.second) o.ends ∙ sym (second_same f p z (x ∷ []))) (is_last ∙ sym (before_behind f p z (x ∷ [])))
              (sym (last_behind f p z (x ∷ [])));
          decided = λ k c. omega (
            arith,
            raise_at v.decided (range v.ends.before v.ends.last) k u,
            o.decided k c,
            triples_join _ (range_side k) f p z z (x ∷ []) d,
            ap (λ a. is_at k (range a v.ends.last)) is_before,
            ap (λ a. is_at k (range p a)) is_last,
          );
          extremes = λ k c. omega (
            arith,
            mark_at k (is_extreme v.reference v.ends.before v.ends.last x) m,
            o.extremes k c,
            triples_join _ (extreme_side v.reference k) f p z z (x ∷ []) d,
            ap (λ a. cond (is_extreme v.reference a v.ends.last x) (is_at k v.ends.last) 0) is_before,
            ap (λ a. cond (is_extreme v.reference p a x) (is_at k a) 0) is_last,
          );
        } in
        on_to _ _ _ (push_at_turn x v q t) (subst (On (value v.classes v.reference
        (record { points = v.ends.points + 1; first = v.ends.first; second = v.ends.second; before = v.ends.last; last = x })
        (raise v.decided (range v.ends.before v.ends.last)) (cond (is_extreme v.reference v.ends.before v.ends.last x)
        (raise v.extremes v.ends.last) v.extremes))) (sym (push_turn f p z x y t')) g)

    on_long_passed : 2 ≤ v.ends.points → IsBetween v.ends.before v.ends.last x → On (push_of x v) (points (f ++ (p ∷ z ∷ x ∷ [])))
    on_long_passed q t =
        let t' : IsBetween p z x = subst (λ a. IsBetween a z x) is_before (subst (λ a. IsBetween v.ends.before a x) is_last t) in
        let d = same_on p z x t' in
        let g : On (value v.classes v.reference (record {
          points = v.ends.points;
          first = v.ends.first;
          second = cond (eqb v.ends.points 2)
              x v.ends.second;
          before = v.ends.before;
          last = x;
        }) v.decided v.extremes) (f ++ (p ∷ x ∷ [])) = record {
          ends = five_same _ _ _ _ _ _ _ _ _ _ (omega (
            arith,
            ap (λ e. e.points) o.ends,
            length-append f (p ∷ z ∷ []),
            length-append f (p ∷ x ∷ []),
          )) (ap (λ e. e.first) o.ends ∙ sym (first_other f p x z))
              (ap (λ e. cond (eqb e.points 2) x e.second) o.ends ∙ sym (second_other f p x z)) (is_before ∙ sym (before_behind f p x []))
              (sym (last_behind f p x []));
          decided = λ k c. omega (arith, o.decided k c, triples_join _ (range_side k) f p z x [] d);
          extremes = λ k c. omega (arith, o.extremes k c, triples_join _ (extreme_side v.reference k) f p z x [] d);
        } in
        on_to _ _ _ (push_on x v q t) (subst (On (value v.classes v.reference
        (record {
          points = v.ends.points;
          first = v.ends.first;
          second = cond (eqb v.ends.points 2) x v.ends.second;
          before = v.ends.before;
          last = x;
        }) v.decided v.extremes)) (sym (push_between f p z x y t')) g)

    on_long : 2 ≤ v.ends.points → PushCase x v.ends → On (push_of x v) (points (f ++ (p ∷ z ∷ x ∷ [])))
    on_long q (on_none n) = absurd (omega arith)
    on_long q (on_equal n e) = on_long_equal (e ∙ is_last) n
    on_long q (on_second n e) = absurd (omega arith)
    on_long q (on_turn n t) = on_long_turn q t
    on_long q (on_passed n t) = on_long_passed q t

  on_tail : (f : List ℕ) (p z : ℕ) (l : List ℕ) → l ≡ f ++ (p ∷ z ∷ []) → IsZigzag l → On v l → 2 ≤ v.ends.points →
      On (push_of x v) (points (l ++ (x ∷ [])))
  on_tail f p z l e y o q =
      let a = append_assoc f (p ∷ z ∷ []) (x ∷ []) in
      let w = on_long f p z (subst (On v) e o) (subst IsZigzag e y) q (push_case x v.ends (λ k. (i.ends.differ k).1)) in
      subst (λ k. On (push_of x v) (points (k ++ (x ∷ [])))) (sym e) (subst (λ k. On (push_of x v) (points k)) (sym a) w)

  on_push : (l : List ℕ) → IsZigzag l → On v l → On (push_of x v) (points (l ++ (x ∷ [])))
  on_push [] y o = on_empty o
  on_push (a ∷ []) y o = on_single a o (cases_eq x a)
  on_push (a ∷ b ∷ l) y o = let t = tail a b l in on_tail t.f t.p t.x (a ∷ b ∷ l) t.is y o (omega (arith, ap (λ e. e.points) o.ends))

  -- one level more behind a history
  pub pushed_counts : (u : List ℕ) → CountsHistory v u → CountsHistory (push_of x v) (u ++ (x ∷ []))
  pushed_counts u g =
      let o : On v (points u) = record { ends = g.ends; decided = g.decided; extremes = g.extremes } in
      let w = subst (On (push_of x v)) (points_inside [] u (x ∷ [])) (on_push (points u) (zig_points u) o) in
      record { ends = w.ends; decided = w.decided; extremes = w.extremes }
