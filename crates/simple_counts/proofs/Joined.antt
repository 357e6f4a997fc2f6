-- Two values joined: the rules, and the histories.
use Rattle.std.proofs.Common.{◌≡◌, ℕ, ◌+◌, ◌<◌, ◌≤◌, List, ◌++◌, length, sym, ap, ◌∙◌, subst, arith}
use Rattle.turning_points.specs.Points.{points}
use Rattle.turning_points.specs.EndPoints.{EndPoints, ends_of, last_point, last_but_one, IsEnds, ends_prepend}
use Rattle.turning_points.proofs.Zigzag.{IsZigzag, zig_points}
use Rattle.turning_points.proofs.Over.{over, over_points, over_of_points}
use Rattle.tally.specs.tables.Tables.{sum_of_tables as both}
use Rattle.simple_counts.specs.Simple.{decide, decided_at, SimpleValue, CountsHistory, IsSimple, decide_join, mark_join, join_of}
use Rattle.simple_counts.specs.level_crossing.Extremes.{extremes_at}
use Rattle.tally.proofs.on_tables.Counting.{added_at, length_added}
use Rattle.simple_counts.proofs.PutLists.{At}
use Rattle.simple_counts.proofs.MeetsLists.{at_zero, at_one, at_many}
use Rattle.turning_points.proofs.MeetEnds.{Left, left_zero, left_one, left_two, left_long, left_of, ends_of_both_ends, ends_of_both_few, ends_of_both_histories}
use Rattle.simple_counts.proofs.Meets.{decide_join_zero, decide_join_one, decide_join_more, mark_join_zero, mark_join_one, mark_join_more, ends_of_both_agrees, length_join}
use Rattle.simple_counts.proofs.ZeroRange.{zero_join}
use Rattle.turning_points.specs.declared.ends.TheConstants.{MAX_POINTS}

-- the rules are kept by joining any two values that meet them
pub joined_counted : (s t : SimpleValue) → IsSimple s → IsSimple t → s.classes ≡ t.classes → s.ends.points + t.ends.points ≤ MAX_POINTS →
    IsSimple (join_of s t)
joined_counted s t i j k p =
    let lt : length t.decided ≡ s.classes = omega (arith, j.decided) in
    let mt : length t.extremes ≡ s.classes = omega (arith, j.extremes) in
    let f : IsEnds s.classes t.ends = subst (λ n. IsEnds n t.ends) (sym k) j.ends in
    let l = length_join s.classes s.reference s.ends t.ends s.decided s.extremes t.decided t.extremes i.ends f i.decided i.extremes lt mt in
    let n = ends_of_both_few s.classes s.ends t.ends i.ends f in
    record {
      classes = i.classes;
      reference = i.reference;
      decided = l.0;
      extremes = l.1;
      ends = ends_of_both_ends s.classes s.ends t.ends i.ends f;
      agrees = ends_of_both_agrees s.classes s.reference s.ends t.ends s.decided s.extremes t.decided t.extremes i.ends f
          i.decided i.extremes lt
          mt i.agrees j.agrees;
      few = omega (arith, n);
      none_at_zero =
          zero_join s.classes s.ends t.ends (both s.decided t.decided) i.ends f
          (omega (arith, added_at s.decided t.decided 0 (omega (arith, i.decided, lt)), i.none_at_zero, j.none_at_zero));
    }

module _ (K r : ℕ) (e f : EndPoints) (d m l s : List ℕ) (ld : length d ≡ K) (lm : length m ≡ K) (y : IsZigzag l) (z : IsZigzag s)
    (i : IsEnds K e) (j : IsEnds K f) (p : e ≡ ends_of l) (q : f ≡ ends_of s)
    (g : At K r (λ k. decided_at k l) (λ k. extremes_at r k l) s d m) where
  join_many : 2 ≤ length l → At K r (λ k. 0) (λ k. 0) (over l s) (decide_join (ends_of l) (ends_of s) d)
      (mark_join r (ends_of l) (ends_of s) m)
  join_many h =
      subst (λ t. At K r (λ k. 0) (λ k. 0) (over l s) t (mark_join r (ends_of l) (ends_of s) m))
      (sym (decide_join_more (ends_of l) (ends_of s) d h))
      (subst (λ t. At K r (λ k. 0) (λ k. 0) (over l s) (decide (last_but_one l) (ends_prepend (last_point l) (ends_of s))
      (decide (last_point l) (ends_of s) d)) t) (sym (mark_join_more r (ends_of l) (ends_of s) m h))
      (at_many K r d m s ld lm z (subst (IsEnds K) q j) l y (subst (IsEnds K) p i) h g))

  join_lists : Left (length l) → At K r (λ k. 0) (λ k. 0) (over l s) (decide_join (ends_of l) (ends_of s) d)
      (mark_join r (ends_of l) (ends_of s) m)
  join_lists (left_zero h) =
      subst (λ t. At K r (λ k. 0) (λ k. 0) (over l s) t (mark_join r (ends_of l) (ends_of s) m))
      (sym (decide_join_zero (ends_of l) (ends_of s) d h))
      (subst (λ t. At K r (λ k. 0) (λ k. 0) (over l s) d t) (sym (mark_join_zero r (ends_of l) (ends_of s) m h))
      (at_zero K r d m s ld lm z (subst (IsEnds K) q j) l h g))
  join_lists (left_one h) =
      subst (λ t. At K r (λ k. 0) (λ k. 0) (over l s) t (mark_join r (ends_of l) (ends_of s) m))
      (sym (decide_join_one (ends_of l) (ends_of s) d h))
      (subst (λ t. At K r (λ k. 0) (λ k. 0) (over l s) (decide (last_point l) (ends_of s) d) t)
      (sym (mark_join_one r (ends_of l) (ends_of s) m h)) (at_one K r d m s ld lm z (subst (IsEnds K) q j) l y
      (subst (IsEnds K) p i) h g))
  join_lists (left_two h) = join_many (omega arith)
  join_lists (left_long h) = join_many (omega arith)

  pub join_at : At K r (λ k. 0) (λ k. 0) (over l s) (decide_join e f d) (mark_join r e f m)
  join_at =
      subst (λ w. At K r (λ k. 0) (λ k. 0) (over l s) (decide_join w f d) (mark_join r w f m)) (sym p)
      (subst (λ w. At K r (λ k. 0) (λ k. 0) (over l s) (decide_join (ends_of l) w d) (mark_join r (ends_of l) w m)) (sym q)
      (join_lists (left_of (length l))))

-- two histories
pub joined_counts : (s t : SimpleValue) (u v : List ℕ) → IsSimple s → IsSimple t → s.classes ≡ t.classes → s.reference ≡ t.reference →
    CountsHistory s u → CountsHistory t v → CountsHistory (join_of s t) (u ++ v)
joined_counts s t u v i j k o g h =
    let K = s.classes in
    let lt : length t.decided ≡ s.classes = omega (arith, j.decided) in
    let mt : length t.extremes ≡ s.classes = omega (arith, j.extremes) in
    let f : IsEnds s.classes t.ends = subst (λ n. IsEnds n t.ends) (sym k) j.ends in
    let a : length s.decided ≡ length t.decided = omega (arith, i.decided) in
    let b : length s.extremes ≡ length t.extremes = omega (arith, i.extremes) in
    let x : At K s.reference (λ n. decided_at n (points u)) (λ n. extremes_at s.reference n (points u)) (points v)
    (both s.decided t.decided) (both s.extremes t.extremes) = record {
      decided = λ n c. omega (arith, added_at s.decided t.decided n a, g.decided n c, h.decided n (subst (λ w. n < w) k c));
      extremes = λ n c. omega (
        arith,
        added_at s.extremes t.extremes n b,
        g.extremes n c,
        h.extremes n (subst (λ w. n < w) k c),
        ap (λ w. extremes_at w n (points v)) o,
      );
    } in
    let y = join_at K s.reference s.ends t.ends (both s.decided t.decided) (both s.extremes t.extremes) (points u) (points v)
    (length_added s.decided t.decided ∙ i.decided) (length_added s.extremes t.extremes ∙ i.extremes) (zig_points u) (zig_points v)
    i.ends f g.ends h.ends x in
    let w = over_points u v ∙ sym (over_of_points u (points v) (zig_points v)) in
    record {
      ends = ends_of_both_histories u v s.ends t.ends g.ends h.ends;
      decided = λ n c. omega (arith, y.decided n c, ap (decided_at n) w);
      extremes = λ n c. omega (arith, y.extremes n c, ap (extremes_at s.reference n) w);
    }
