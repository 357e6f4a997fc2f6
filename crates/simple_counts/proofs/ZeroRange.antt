-- No range is 0: the first place of the table of ranges holds nothing.
use Rattle.std.proofs.Common.{◌≡◌, ◌≢◌, ℕ, ◌<◌, ◌≤◌, ◌⊎◌, inl, inr, List, set, get_or, ap, ◌∙◌, arith, get_or-set_other}
use Rattle.std.proofs.lemmas.Bool.{cases_lt}
use Rattle.turning_points.specs.Pairs.{range}
use Rattle.turning_points.specs.EndPoints.{EndPoints, IsEnds, ends_prepend}
use Rattle.turning_points.proofs.Put.{PutCase, at_none, at_equal, at_second, at_turn, at_passed}
use Rattle.turning_points.proofs.PutEnds.{case_of, put_ends, turn_differs, between_differs}
use Rattle.turning_points.proofs.MeetEnds.{Left, left_zero, left_one, left_two, left_long, left_of}
use Rattle.tally.specs.tables.Tables.{lower}
use Rattle.simple_counts.specs.Simple.{decide, decide_join}
use Rattle.simple_counts.proofs.PutTables.{decide_short, decide_equal, decide_turn, decide_two, decide_passed}
use Rattle.simple_counts.proofs.Meets.{decide_join_zero, decide_join_one, decide_join_more}

pub range_positive : (a b : ℕ) → a ≢ b → 1 ≤ range a b
range_positive a b n = grind arith

-- a place above 0 was written
pub zero_set : (t : List ℕ) (p v : ℕ) → 1 ≤ p → get_or t 0 0 ≡ 0 → get_or (set t p v) 0 0 ≡ 0
zero_set t p v h z = get_or-set_other t p 0 v 0 (λ e. absurd (omega arith)) ∙ z

module _ (x : ℕ) (e : EndPoints) (t : List ℕ) (z : get_or t 0 0 ≡ 0) where
  zero_case : (2 ≤ e.points → e.first ≢ e.second) → PutCase x e → get_or (decide x e t) 0 0 ≡ 0
  zero_case d (at_none p) = ap (λ l. get_or l 0 0) (decide_short x e t (omega arith)) ∙ z
  zero_case d (at_equal p q) = ap (λ l. get_or l 0 0) (decide_equal x e t q) ∙ z
  zero_case d (at_second p q) = ap (λ l. get_or l 0 0) (decide_short x e t (omega arith)) ∙ z
  zero_case d (at_turn p q) =
      ap (λ l. get_or l 0 0) (decide_turn x e t p q) ∙ zero_set t (range x e.first) _
      (range_positive x e.first (turn_differs x e.first e.second q)) z
  zero_case d (at_passed p q) = pick (cases_lt e.points 3)
    where
      pick : ((e.points < 3) ⊎ (3 ≤ e.points)) → get_or (decide x e t) 0 0 ≡ 0
      pick (inl s) = ap (λ l. get_or l 0 0) (decide_two x e t (omega arith) q) ∙ z
      pick (inr s) =
          ap (λ l. get_or l 0 0) (decide_passed x e t s q)
          ∙ zero_set (lower t (range e.first e.second)) (range x e.second) _
          (range_positive x e.second (between_differs x e.first e.second q))
          (zero_set t (range e.first e.second) _ (range_positive e.first e.second (d p)) z)

zero_decide : (K x : ℕ) (e : EndPoints) (t : List ℕ) → IsEnds K e → get_or t 0 0 ≡ 0 → get_or (decide x e t) 0 0 ≡ 0
zero_decide K x e t i z = zero_case x e t z (λ q. (i.differ q).0) (case_of K x e i)

module _ (K : ℕ) (e f : EndPoints) (d : List ℕ) (i : IsEnds K e) (j : IsEnds K f) (z : get_or d 0 0 ≡ 0) where
  zero_more : 2 ≤ e.points → get_or (decide_join e f d) 0 0 ≡ 0
  zero_more h =
      ap (λ l. get_or l 0 0) (decide_join_more e f d h)
      ∙ zero_decide K e.before (ends_prepend e.last f) (decide e.last f d) (put_ends K e.last f j i.below.3) (zero_decide K e.last f d j z)

  zero_by : Left e.points → get_or (decide_join e f d) 0 0 ≡ 0
  zero_by (left_zero h) = ap (λ l. get_or l 0 0) (decide_join_zero e f d h) ∙ z
  zero_by (left_one h) = ap (λ l. get_or l 0 0) (decide_join_one e f d h) ∙ zero_decide K e.last f d j z
  zero_by (left_two h) = zero_more (omega arith)
  zero_by (left_long h) = zero_more (omega arith)

  -- joining two parts counts no range 0
  pub zero_join : get_or (decide_join e f d) 0 0 ≡ 0
  zero_join = zero_by (left_of e.points)
