-- A history crosses a boundary as often as its points do, and has their first and last level.
--   crossings_points   the crossings
--   crosses_points     what stands for the points stands for the history
use Rattle.std.proofs.Common.{◌≡◌, ℕ, ◌+◌, ◌-◌, ◌≤◌, List, [], ◌∷◌, length, refl, sym, ap, ◌∙◌, subst, arith}
use Rattle.std.proofs.lemmas.Bool.Decides.{nat_tests}
use Rattle.turning_points.specs.Points.{points, IsBetween}
use Rattle.turning_points.specs.EndPoints.{last_point}
use Rattle.turning_points.proofs.Zigzag.{Added, first, equal, second, turn, between, is_added, points_cons, zig_points}
use Rattle.simple_counts.specs.level_crossing.Crossings.{step_crossings, crossings, start_level, has_level, CrossingsValue, Crosses}

-- the step from x to the first level of p
abbrev step : ℕ → ℕ → ℕ → List ℕ → ℕ
step r l x [] = 0
step r l x (y ∷ p) = step_crossings r l x y

equal_step : (r l x y : ℕ) → x ≡ y → step_crossings r l x y ≡ 0
equal_step r l x y e = grind (arith, nat_tests)

passed_step : (r l x y z : ℕ) → IsBetween x y z → step_crossings r l x z ≡ step_crossings r l x y + step_crossings r l y z
passed_step r l x y z b = grind (arith, nat_tests)

crossings_added : (r l : ℕ) {x : ℕ} {p m : List ℕ} → Added x p m → crossings r l m ≡ step r l x p + crossings r l p
crossings_added r l first = refl
crossings_added r l {x} (equal {y = y} e) = omega (arith, equal_step r l x y e)
crossings_added r l (second n) = refl
crossings_added r l (turn t) = refl
crossings_added r l {x} (between {y = y} {z = z} b) = omega (arith, passed_step r l x y z b)

pub crossings_points : (r l : ℕ) (h : List ℕ) → crossings r l (points h) ≡ crossings r l h
crossings_points r l [] = refl
crossings_points r l (x ∷ []) = refl
crossings_points r l (x ∷ y ∷ h) = omega (
  arith,
  ap (crossings r l) (points_cons x (y ∷ h)),
  crossings_added r l (is_added x (points (y ∷ h)) (zig_points (y ∷ h))),
  crossings_points r l (y ∷ h),
)

last_added : {x : ℕ} {p m : List ℕ} → Added x p m → 1 ≤ length p → last_point m ≡ last_point p
last_added first o = absurd (omega arith)
last_added (equal e) o = refl
last_added (second n) o = refl
last_added (turn t) o = refl
last_added (between b) o = refl

pub last_points : (h : List ℕ) → last_point (points h) ≡ last_point h
last_points [] = refl
last_points (x ∷ []) = refl
last_points (x ∷ y ∷ h) = ap last_point (points_cons x (y ∷ h)) ∙ last_added (is_added x (points (y ∷ h)) (zig_points (y ∷ h)))
    (omega arith) ∙ last_points (y ∷ h)

some_points : (h : List ℕ) → has_level (points h) ≡ has_level h
some_points [] = refl
some_points (x ∷ h) = refl

first_points : (h : List ℕ) → start_level (points h) ≡ start_level h
first_points [] = refl
first_points (x ∷ h) = refl

pub crosses_points : (v : CrossingsValue) (p h : List ℕ) → points h ≡ p → Crosses v p → Crosses v h
crosses_points v p h e c =
    let g = subst (Crosses v) (sym e) c in
    record {
      some = g.some ∙ some_points h;
      first = g.first ∙ first_points h;
      last = g.last ∙ last_points h;
      counts = λ l a b. g.counts l a b ∙ crossings_points v.reference l h;
    }

-- no boundary is crossed at each level
pub few_added : (r l x y : ℕ) → step_crossings r l x y ≤ 1
few_added r l x y = grind (arith, nat_tests)

pub crossings_few : (r l : ℕ) (h : List ℕ) → crossings r l h ≤ length h - 1
crossings_few r l [] = omega arith
crossings_few r l (x ∷ []) = omega arith
crossings_few r l (x ∷ y ∷ h) = omega (arith, few_added r l x y, crossings_few r l (y ∷ h))
