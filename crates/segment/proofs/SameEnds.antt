-- The crossings begin and end where the points do.
--   Joint                                  what the ends of two histories are by those of each
--   joined_ends, pushed_ends, listed_ends  kept by a joint, by a level more and by a list of points
--   some_used                              where there is a level, a sample is used
use Rattle.std.proofs.Common.{◌≡◌, ℕ, suc, ◌<◌, ◌≤◌, ◌⊎◌, inl, inr, Bool, true, ◌||◌, ◌==◌, if◌then◌else◌, List, [], ◌∷◌, length, sym, ap, ◌∙◌, subst, arith}
use Rattle.std.specs.Prelude.{not}
use Rattle.std.proofs.lemmas.Bool.{cases_lt}
use Rattle.std.proofs.lemmas.Bool.Decides.{nat_tests}
use Rattle.turning_points.specs.EndPoints.{EndPoints, IsEnds, ends_of, ends_push, last_point, ends_of_both, ends_prepend, only_point}
use Rattle.turning_points.proofs.Put.{PutCase, at_none, at_equal, at_second, at_turn, at_passed, put_equal, put_first, put_none, put_passed, put_second, put_turn, put_two}
use Rattle.turning_points.proofs.PutEnds.{case_of, put_ends}
use Rattle.turning_points.proofs.MeetEnds.{Left, left_zero, left_one, left_two, left_long, left_of, ends_of_both_long, ends_of_both_one, ends_of_both_two, ends_of_both_zero, twice}
use Rattle.turning_points.proofs.PushEnds.{push_is_meets}
use Rattle.simple_counts.specs.level_crossing.Crossings.{CrossingsValue, start_level, has_level}
use Rattle.simple_counts.specs.level_crossing.Loading.{HasEnds}

-- a level that is put before ends leaves the last one
put_last_by : (x : ℕ) (e : EndPoints) → PutCase x e → (e.points ≡ 1 → e.last ≡ e.first) → 1 ≤ e.points → (ends_prepend x e).last ≡ e.last
put_last_by x e (at_none p) o s = absurd (omega (arith, p, s))
put_last_by x e (at_equal p q) o s = ap (λ g. g.last) (put_equal x e p q)
put_last_by x e (at_second p q) o s = ap (λ g. g.last) (put_second x e p q) ∙ sym (o p)
put_last_by x e (at_turn p q) o s = ap (λ g. g.last) (put_turn x e p q)
put_last_by x e (at_passed p q) o s = passed (cases_lt e.points 3)
  where
    passed : ((e.points < 3) ⊎ (3 ≤ e.points)) → (ends_prepend x e).last ≡ e.last
    passed (inl few) = ap (λ g. g.last) (put_two x e (omega (arith, p, few)) q)
    passed (inr many) = ap (λ g. g.last) (put_passed x e many q)

put_last : (k x : ℕ) (e : EndPoints) → IsEnds k e → 1 ≤ e.points → (ends_prepend x e).last ≡ e.last
put_last k x e i s = put_last_by x e (case_of k x e i) (λ o. (i.one o).2) s

pub record Joint (e f g : EndPoints) : Type 0 where
  pub none : e.points ≡ 0 → g ≡ f
  pub some : 1 ≤ e.points → 1 ≤ g.points
  pub first : 1 ≤ e.points → g.first ≡ e.first
  pub last : 1 ≤ e.points → 1 ≤ f.points → g.last ≡ f.last
  pub left : 1 ≤ e.points → f.points ≡ 0 → g.last ≡ e.last

module _ (k : ℕ) (e f : EndPoints) (i : IsEnds k e) (j : IsEnds k f) where
  next_ends : IsEnds k (ends_prepend e.last f)
  next_ends = put_ends k e.last f j i.below.3

  next_first : ((ends_prepend e.last f).first ≡ e.last) × (1 ≤ (ends_prepend e.last f).points)
  next_first = let p = put_first e.last f (case_of k e.last f j) in (p.0, p.1)

  next_last : (f.points ≡ 0 → (ends_prepend e.last f).last ≡ e.last) × (1 ≤ f.points → (ends_prepend e.last f).last ≡ f.last)
  next_last = (λ z. ap (λ g. g.last) (put_none e.last f z), λ s. put_last k e.last f j s)

  before_last : (ends_prepend e.before (ends_prepend e.last f)).last ≡ (ends_prepend e.last f).last
  before_last = put_last k e.before (ends_prepend e.last f) next_ends next_first.1

  joint_by : Left e.points → Joint e f (ends_of_both e f)
  joint_by (left_zero h) = record {
    none = λ z. ends_of_both_zero e f h;
    some = λ s. absurd (omega (arith, h, s));
    first = λ s. absurd (omega (arith, h, s));
    last = λ s t. absurd (omega (arith, h, s));
    left = λ s t. absurd (omega (arith, h, s));
  }
  joint_by (left_one h) =
      let m = ends_of_both_one e f h in
      record {
        none = λ z. absurd (omega (arith, h, z));
        some = λ s. omega (arith, ap (λ g. g.points) m, next_first.1);
        first = λ s. ap (λ g. g.first) m ∙ next_first.0 ∙ (i.one h).2;
        last = λ s t. ap (λ g. g.last) m ∙ next_last.1 t;
        left = λ s t. ap (λ g. g.last) m ∙ next_last.0 t;
      }
  joint_by (left_two h) =
      let m = ends_of_both_two e f h in
      let w = twice k e f i j (omega (arith, h)) in
      record {
        none = λ z. absurd (omega (arith, h, z));
        some = λ s. omega (arith, ap (λ g. g.points) m, w.many);
        first = λ s. ap (λ g. g.first) m ∙ w.first ∙ (i.two h).0;
        last = λ s t. ap (λ g. g.last) m ∙ before_last ∙ next_last.1 t;
        left = λ s t. ap (λ g. g.last) m ∙ before_last ∙ next_last.0 t;
      }
  joint_by (left_long h) =
      let m = ends_of_both_long e f h in
      let w = twice k e f i j (omega (arith, h)) in
      record {
        none = λ z. absurd (omega (arith, h, z));
        some = λ s. omega (arith, ap (λ g. g.points) m, w.many);
        first = λ s. ap (λ g. g.first) m;
        last = λ s t. ap (λ g. g.last) m ∙ before_last ∙ next_last.1 t;
        left = λ s t. ap (λ g. g.last) m ∙ before_last ∙ next_last.0 t;
      }

  pub joint : Joint e f (ends_of_both e f)
  joint = joint_by (left_of e.points)

  none_last : f.points ≡ 0 → e.points ≡ 0 → f.last ≡ e.last
  none_last n m = (j.none n).3 ∙ sym (i.none m).3

some_by : (m n p : ℕ) (a b c : Bool) → a ≡ not (m == 0) → b ≡ not (n == 0) → c ≡ (a || b) → (m ≡ 0 → p ≡ n) → (1 ≤ m → 1 ≤ p) →
    c ≡ not (p == 0)
some_by m n p a b c f g h k l = grind (arith, nat_tests)

first_by : (m x left right g : ℕ) (a : Bool) → a ≡ not (m == 0) → x ≡ (if a then left else right) → (m ≡ 0 → g ≡ right) →
    (1 ≤ m → g ≡ left) → x ≡ g
first_by m x left right g a f h k l = grind (arith, nat_tests)

last_by : (m n x left right g : ℕ) (b : Bool) → b ≡ not (n == 0) → x ≡ (if b then right else left) → (m ≡ 0 → g ≡ right) →
    (1 ≤ m → 1 ≤ n → g ≡ right) → (1 ≤ m → n ≡ 0 → g ≡ left) → (n ≡ 0 → m ≡ 0 → right ≡ left) → x ≡ g
last_by m n x left right g b f h k l o z = grind (arith, nat_tests)

pub joined_ends : (k : ℕ) (v w x : CrossingsValue) (e f g : EndPoints) → IsEnds k e → IsEnds k f → HasEnds v e → HasEnds w f →
    x.some ≡ (v.some || w.some) → x.first ≡ (if v.some then v.first else w.first) → x.last ≡ (if w.some then w.last else v.last) →
    g ≡ ends_of_both e f → HasEnds x g
joined_ends k v w x e f g i j a b some first last is =
    let t = joint k e f i j in
    let at_first = first ∙ ap (λ n. if v.some then n else w.first) a.1 ∙ ap (λ n. if v.some then e.first else n) b.1 in
    let at_last = last ∙ ap (λ n. if w.some then n else v.last) b.2 ∙ ap (λ n. if w.some then f.last else n) a.2 in
    subst (HasEnds x) (sym is) (
      some_by e.points f.points (ends_of_both e f).points v.some w.some x.some a.0 b.0 some (λ z. ap (λ n. n.points) (t.none z)) t.some,
      first_by e.points x.first e.first f.first (ends_of_both e f).first v.some a.0 at_first (λ z. ap (λ n. n.first) (t.none z)) t.first,
      last_by e.points f.points x.last e.last f.last (ends_of_both e f).last w.some b.0 at_last
          (λ z. ap (λ n. n.last) (t.none z)) t.last t.left
          (none_last k e f i j),
    )

some_more : (m p : ℕ) (c : Bool) → c ≡ true → (m ≡ 0 → p ≡ 1) → (1 ≤ m → 1 ≤ p) → c ≡ not (p == 0)
some_more m p c h k l = grind (arith, nat_tests)

last_more : (m x y g : ℕ) → x ≡ y → (m ≡ 0 → g ≡ y) → (1 ≤ m → g ≡ y) → x ≡ g
last_more m x y g h k l = grind arith

pub pushed_ends : (k y : ℕ) (v x : CrossingsValue) (e g : EndPoints) → IsEnds k e → IsEnds k (only_point y) → HasEnds v e → x.some ≡ true →
    x.first ≡ (if v.some then v.first else y) → x.last ≡ y → g ≡ ends_push y e → HasEnds x g
pushed_ends k y v x e g i j a some first last is =
    let t = joint k e (only_point y) i j in
    let f : EndPoints = only_point y in
    let at_first = first ∙ ap (λ n. if v.some then n else y) a.1 in
    subst (HasEnds x) (sym (is ∙ push_is_meets k y e i)) (
      some_more e.points (ends_of_both e (only_point y)).points x.some some (λ z. ap (λ n. n.points) (t.none z)) t.some,
      first_by e.points x.first e.first y (ends_of_both e (only_point y)).first v.some a.0 at_first
          (λ z. ap (λ n. n.first) (t.none z)) t.first,
      last_more e.points x.last y (ends_of_both e (only_point y)).last last (λ z. ap (λ n. n.last) (t.none z))
          (λ s. t.last s (omega arith)),
    )

pub listed_ends : (p : List ℕ) (x : CrossingsValue) (e : EndPoints) → x.some ≡ has_level p → x.first ≡ start_level p
    → x.last ≡ last_point p →
    e ≡ ends_of p → HasEnds x e
listed_ends p x e some first last is = subst (HasEnds x) (sym is) (by p some first last)
  where
    some_of : (n : ℕ) → true ≡ not (suc n == 0)
    some_of n = grind (arith, nat_tests)

    by : (p : List ℕ) → x.some ≡ has_level p → x.first ≡ start_level p → x.last ≡ last_point p → HasEnds x (ends_of p)
    by [] a b c = (a, b, c)
    by (y ∷ p) a b c = (a ∙ some_of (length p), b, c)

pub some_used : (x : CrossingsValue) (e : EndPoints) (used : ℕ) → HasEnds x e → e.points ≤ used → x.some ≡ true → 1 ≤ used
some_used x e used a h t = by e.points used (sym a.0 ∙ t) h
  where
    by : (n u : ℕ) → not (n == 0) ≡ true → n ≤ u → 1 ≤ u
    by n u f g = grind (arith, nat_tests)
