-- After the first of the two levels was put before.
use Rattle.std.proofs.Common.{◌≡◌, ℕ, ◌+◌, ◌-◌, ◌^◌, ◌<◌, ◌≤◌, cond, leb, ◌&&◌, List, length, get_or, sum, refl, sym, ap, ◌∙◌, subst, arith}
use Rattle.turning_points.specs.Pairs.{range}
use Rattle.turning_points.specs.EndPoints.{EndPoints, IsEnds, ends_prepend, ends_of_both, ends_push}
use Rattle.tally.specs.tables.Tables.{sum_of_tables as both, raise}
use Rattle.simple_counts.proofs.Joined.{joined_counted}
use Rattle.simple_counts.proofs.Pushed.{pushed_counted}
use Rattle.simple_counts.specs.Simple.{SimpleValue, IsSimple, Agrees, none_at, decide, mark, decide_join, mark_join, turns_at}
use Rattle.simple_counts.specs.level_crossing.Extremes.{is_extreme}
use Rattle.lemmas.proofs.Sums.{get_or-le-sum}
use Rattle.tally.proofs.on_tables.Counting.{added_at, sum_added, length_added}
use Rattle.turning_points.proofs.Put.{put_first}
use Rattle.simple_counts.proofs.PutLists.{put_agrees, decide_length, mark_length}
use Rattle.turning_points.proofs.PutEnds.{case_of, put_ends}
use Rattle.turning_points.specs.declared.ends.TheConstants.{MAX_POINTS}

pub record Stage (e : EndPoints) (d m : List ℕ) : Type 0 where
  pub ends : IsEnds (length d) e
  pub ends_again : IsEnds (length m) e
  pub first : 3 ≤ e.points → 1 ≤ get_or d (range e.first e.second) 0
  pub room : (k : ℕ) → get_or d k 0 < 2 ^ 62
  pub space : (k : ℕ) → get_or m k 0 < 2 ^ 62

pub stage : (r x : ℕ) (e e' : EndPoints) (d m d' m' : List ℕ) → IsEnds (length d) e → x < length d → length m ≡ length d →
    (3 ≤ e.points → 1 ≤ get_or d (range e.first e.second) 0) → e.points - 2 ≤ sum d → e.points < 2 ^ 61 → sum d < 2 ^ 61 → sum m < 2 ^ 61 →
    e' ≡ ends_prepend x e → d' ≡ decide x e d → m' ≡ mark r x e m → Stage e' d' m'
stage r x e e' d m d' m' i h l f n p sd sm q s t =
    let a : Agrees (sum d - (e.points - 2)) (sum m) none_at e d m = record
    { sum_of = omega arith; first = λ w. omega (arith, f w); above = λ k. omega arith; few = omega arith } in
    let g = put_agrees (length d) r x _ _ none_at e d m i h refl l a in
    let b = put_first x e (case_of (length d) x e i) in
    let j = put_ends (length d) x e i h in
    let ld = ap length s ∙ decide_length (length d) x e d i in
    let lm = ap length t ∙ mark_length (length d) r x e m i ∙ l in
    let u = ap sum s in
    let v = ap sum t in
    record {
      ends = subst (λ w. IsEnds w e') (sym ld) (subst (IsEnds (length d)) (sym q) j);
      ends_again = subst (λ w. IsEnds w e') (sym lm) (subst (IsEnds (length d)) (sym q) j);
      first = subst (λ w. 3 ≤ w.points → 1 ≤ get_or d' (range w.first w.second) 0) (sym q)
          (subst (λ w. 3 ≤ (ends_prepend x e).points → 1 ≤ get_or w (range (ends_prepend x e).first (ends_prepend x e).second) 0) (sym s)
          (λ w. omega (arith, g.first w)));
      room = λ k. omega (arith, get_or-le-sum d' k, g.sum_of, b);
      space = λ k. omega (arith, get_or-le-sum m' k, g.few, b);
    }

-- what `join` may assume once the tables were added
pub record Ready (s t : SimpleValue) (d m : List ℕ) : Type 0 where
  pub left : IsEnds (length d) s.ends
  pub right : IsEnds (length d) t.ends
  pub same : length m ≡ length d
  pub first : 3 ≤ t.ends.points → 1 ≤ get_or d (range t.ends.first t.ends.second) 0
  pub enough : t.ends.points - 2 ≤ sum d
  pub room : sum d < 2 ^ 61
  pub space : sum m < 2 ^ 61

pub ready : {s t : SimpleValue} {d m : List ℕ} → IsSimple s → IsSimple t → s.classes ≡ t.classes →
    s.ends.points + t.ends.points ≤ MAX_POINTS → d ≡ both s.decided t.decided → m ≡ both s.extremes t.extremes → Ready s t d m
ready {s} {t} {d} {m} i j k p q r =
    let a : length s.decided ≡ length t.decided = omega (arith, i.decided, j.decided) in
    let b : length s.extremes ≡ length t.extremes = omega (arith, i.extremes, j.extremes) in
    let l : length d ≡ s.classes = ap length q ∙ length_added s.decided t.decided ∙ i.decided in
    let n : length m ≡ s.classes = ap length r ∙ length_added s.extremes t.extremes ∙ i.extremes in
    let x = ap sum q ∙ sum_added s.decided t.decided a in
    let y = ap sum r ∙ sum_added s.extremes t.extremes b in
    record {
      left = subst (λ w. IsEnds w s.ends) (sym l) i.ends;
      right = subst (λ w. IsEnds w t.ends) (sym (l ∙ k)) j.ends;
      same = n ∙ sym l;
      first = λ w. omega (
        arith,
        ap (λ u. get_or u (range t.ends.first t.ends.second) 0) q,
        added_at s.decided t.decided
            (range t.ends.first t.ends.second) a,
        j.agrees.first w,
      );
      enough = omega (arith, x, j.agrees.sum_of);
      room = omega (arith, x, i.agrees.sum_of, j.agrees.sum_of);
      space = omega (arith, y, i.agrees.few, j.agrees.few);
    }

-- a value is the same where its parts are
pub value_same : (K r : ℕ) (e e' : EndPoints) (d d' m m' : List ℕ) → e ≡ e' → d ≡ d' → m ≡ m' →
    ◌≡◌ {A = SimpleValue} (record { classes = K; reference = r; ends = e; decided = d; extremes = m })
    (record { classes = K; reference = r; ends = e'; decided = d'; extremes = m' })
value_same K r e e' d d' m m' p q s = cc

-- the value with these parts meets the rules
pub closed : {s t : SimpleValue} {e : EndPoints} {d m d' m' : List ℕ} → IsSimple s → IsSimple t → s.classes ≡ t.classes →
    s.ends.points + t.ends.points ≤ MAX_POINTS → d ≡ both s.decided t.decided → m ≡ both s.extremes t.extremes → e
    ≡ ends_of_both s.ends t.ends →
    d' ≡ decide_join s.ends t.ends d → m' ≡ mark_join s.reference s.ends t.ends m →
    IsSimple (record { classes = s.classes; reference = s.reference; ends = e; decided = d'; extremes = m' })
closed {s} {t} {e} {d} {m} {d'} {m'} i j k p q r x y z =
    subst IsSimple (sym (value_same s.classes s.reference e _ d' _ m' _ x (y ∙ ap (decide_join s.ends t.ends) q)
    (z ∙ ap (mark_join s.reference s.ends t.ends) r))) (joined_counted s t i j k p)

pub closed_push : {v : SimpleValue} {e : EndPoints} {d m : List ℕ} (x : ℕ) → IsSimple v → x < v.classes → v.ends.points + 1 ≤ MAX_POINTS →
    e ≡ ends_push x v.ends → d ≡ cond (turns_at x v.ends) (raise v.decided (range v.ends.before v.ends.last)) v.decided →
    m ≡ cond (leb 2 v.ends.points && is_extreme v.reference v.ends.before v.ends.last x) (raise v.extremes v.ends.last) v.extremes →
    IsSimple (record { classes = v.classes; reference = v.reference; ends = e; decided = d; extremes = m })
closed_push {v} {e} {d} {m} x i h p q r s =
    subst IsSimple (sym (value_same v.classes v.reference e _ d _ m _ q r s)) (pushed_counted v x i h p)
