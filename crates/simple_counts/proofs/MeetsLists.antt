-- Two parts of a history, one after the other: the tables.
use Rattle.std.proofs.Common.{◌≡◌, ℕ, ◌<◌, ◌≤◌, List, [], ◌∷◌, ◌++◌, length, sym, ap, ◌∙◌, subst, arith}
use Rattle.turning_points.specs.EndPoints.{EndPoints, ends_of, last_point, last_but_one, IsEnds, ends_prepend}
use Rattle.turning_points.proofs.Zigzag.{add, is_added, IsZigzag, zig_added}
use Rattle.turning_points.proofs.Over.{over}
use Rattle.turning_points.proofs.Joining.{met_points, met, tail, put_is, last_behind, before_behind}
use Rattle.simple_counts.specs.Simple.{decide, mark, decided_at}
use Rattle.simple_counts.specs.level_crossing.Extremes.{extremes_at}
use Rattle.simple_counts.proofs.Triples.{triples_join, range_side, extreme_side}
use Rattle.turning_points.proofs.Put.{put_same}
use Rattle.turning_points.proofs.PutEnds.{put_ends}
use Rattle.turning_points.proofs.Push.{end_differs}
use Rattle.simple_counts.proofs.PutLists.{decide_length, mark_length, At, at_added}

pub put_list : (x : ℕ) (l : List ℕ) → IsZigzag l → ends_of (add x l) ≡ ends_prepend x (ends_of l)
put_list x l z = put_is x l z ∙ sym (put_same x (ends_of l))

-- the tables after the last two levels of a list were put before s one by one
module _ (K r : ℕ) (a b : ℕ → ℕ) (d m s : List ℕ) (ld : length d ≡ K) (lm : length m ≡ K) (z : IsZigzag s) (i : IsEnds K (ends_of s)) where
  pub at_once : (x : ℕ) → x < K → At K r a b s d m → At K r a b (add x s) (decide x (ends_of s) d) (mark r x (ends_of s) m)
  at_once x h g = at_added K r a b d m ld lm (is_added x s z) h i g

  pub at_twice : (p x : ℕ) → p < K → x < K → At K r a b s d m →
      At K r a b (add p (add x s)) (decide p (ends_prepend x (ends_of s)) (decide x (ends_of s) d))
      (mark r p (ends_prepend x (ends_of s)) (mark r x (ends_of s) m))
  at_twice p x q h g =
      let e = put_list x s z in
      let j = put_ends K x (ends_of s) i h in
      let y = zig_added (is_added x s z) z in
      let w = at_added K r a b (decide x (ends_of s) d) (mark r x (ends_of s) m) (decide_length K x (ends_of s) d i ∙ ld)
      (mark_length K r x (ends_of s) m i ∙ lm) (is_added p (add x s) y) q (subst (IsEnds K) (sym e) j) (at_once x h g) in
      subst (λ f. At K r a b (add p (add x s)) (decide p f (decide x (ends_of s) d)) (mark r p f (mark r x (ends_of s) m))) e w

-- behind the other levels
behind : (K r : ℕ) (f : List ℕ) (p x : ℕ) (s d m : List ℕ) → IsZigzag (f ++ (p ∷ x ∷ [])) → IsZigzag s →
    At K r (λ k. decided_at k (f ++ (p ∷ x ∷ []))) (λ k. extremes_at r k (f ++ (p ∷ x ∷ []))) (add p (add x s)) d m →
    At K r (λ k. 0) (λ k. 0) (over (f ++ (p ∷ x ∷ [])) s) d m
behind K r f p x s d m y z g =
    let t = met p x s (end_differs f p x y) z in
    let e = met_points f p x s y z ∙ ap (λ l. f ++ l) t.is in
    record {
      decided = λ k h. omega (
        arith,
        g.decided k h,
        ap (decided_at k) t.is,
        ap (decided_at k) e,
        triples_join _ (range_side k) f p x
            t.n t.t t.side,
      );
      extremes = λ k h. omega (
        arith,
        g.extremes k h,
        ap (extremes_at r k) t.is,
        ap (extremes_at r k) e,
        triples_join _ (extreme_side r k) f
            p x t.n t.t t.side,
      );
    }

-- the tables of the two, with the levels that may change put before the second
abbrev pub decide_twice : EndPoints → EndPoints → List ℕ → List ℕ
decide_twice e f d = decide e.before (ends_prepend e.last f) (decide e.last f d)

abbrev pub mark_twice : ℕ → EndPoints → EndPoints → List ℕ → List ℕ
mark_twice r e f m = mark r e.before (ends_prepend e.last f) (mark r e.last f m)

module _ (K r : ℕ) (d m s : List ℕ) (ld : length d ≡ K) (lm : length m ≡ K) (z : IsZigzag s) (i : IsEnds K (ends_of s)) where
  long_case : (f : List ℕ) (p x : ℕ) → IsZigzag (f ++ (p ∷ x ∷ [])) → p < K → x < K →
      At K r (λ k. decided_at k (f ++ (p ∷ x ∷ []))) (λ k. extremes_at r k (f ++ (p ∷ x ∷ []))) s d m →
      At K r (λ k. 0) (λ k. 0) (over (f ++ (p ∷ x ∷ [])) s) (decide p (ends_prepend x (ends_of s)) (decide x (ends_of s) d))
      (mark r p (ends_prepend x (ends_of s)) (mark r x (ends_of s) m))
  long_case f p x y h q g = behind K r f p x s _ _ y z (at_twice K r _ _ d m s ld lm z i p x h q g)

  by_tail : (l : List ℕ) → IsZigzag l → IsEnds K (ends_of l) → (f : List ℕ) (p x : ℕ) → l ≡ f ++ (p ∷ x ∷ []) →
      At K r (λ k. decided_at k l) (λ k. extremes_at r k l) s d m →
      At K r (λ k. 0) (λ k. 0) (over l s) (decide_twice (ends_of l) (ends_of s) d) (mark_twice r (ends_of l) (ends_of s) m)
  by_tail l y j f p x e g =
      let b = ap last_but_one e ∙ before_behind f p x [] in
      let c = ap last_point e ∙ last_behind f p x [] in
      let h : p < K = omega (arith, j.below.2, b) in
      let q : x < K = omega (arith, j.below.3, c) in
      let w = long_case f p x (subst IsZigzag e y) h q (subst (λ k. At K r (λ n. decided_at n k) (λ n. extremes_at r n k) s d m) e g) in
      let v = subst (λ k. At K r (λ k. 0) (λ k. 0) (over k s) (decide p (ends_prepend x (ends_of s)) (decide x (ends_of s) d))
      (mark r p (ends_prepend x (ends_of s)) (mark r x (ends_of s) m))) (sym e) w in
      subst (λ n. At K r (λ k. 0) (λ k. 0) (over l s)
      (decide n (ends_prepend (last_point l) (ends_of s)) (decide (last_point l) (ends_of s) d))
      (mark r n (ends_prepend (last_point l) (ends_of s)) (mark r (last_point l) (ends_of s) m))) (sym b)
      (subst (λ n. At K r (λ k. 0) (λ k. 0) (over l s) (decide p (ends_prepend n (ends_of s)) (decide n (ends_of s) d))
      (mark r p (ends_prepend n (ends_of s)) (mark r n (ends_of s) m))) (sym c) v)

  pub at_many : (l : List ℕ) → IsZigzag l → IsEnds K (ends_of l) → 2 ≤ length l →
      At K r (λ k. decided_at k l) (λ k. extremes_at r k l) s d m →
      At K r (λ k. 0) (λ k. 0) (over l s) (decide_twice (ends_of l) (ends_of s) d) (mark_twice r (ends_of l) (ends_of s) m)
  at_many [] y j h g = absurd (omega arith)
  at_many (x ∷ []) y j h g = absurd (omega arith)
  at_many (p ∷ x ∷ l) y j h g = let t = tail p x l in by_tail (p ∷ x ∷ l) y j t.f t.p t.x t.is g

  pub at_one : (l : List ℕ) → IsZigzag l → IsEnds K (ends_of l) → length l ≡ 1 →
      At K r (λ k. decided_at k l) (λ k. extremes_at r k l) s d m →
      At K r (λ k. 0) (λ k. 0) (over l s) (decide (last_point l) (ends_of s) d) (mark r (last_point l) (ends_of s) m)
  at_one [] y j h g = absurd (omega arith)
  at_one (x ∷ []) y j h g = at_once K r (λ k. 0) (λ k. 0) d m s ld lm z i x j.below.0 g
  at_one (p ∷ x ∷ l) y j h g = absurd (omega arith)

  pub at_zero : (l : List ℕ) → length l ≡ 0 → At K r (λ k. decided_at k l) (λ k. extremes_at r k l) s d m →
      At K r (λ k. 0) (λ k. 0) (over l s) d m
  at_zero [] h g = g
  at_zero (x ∷ l) h g = absurd (omega arith)
