-- A value with the tables of a list of points.
use Rattle.std.proofs.Common.{◌≡◌, ℕ, ◌+◌, ◌<◌, ◌≤◌, Bool, List, [], ◌∷◌, length, take, sum, sym, subst, arith}
use Rattle.std.specs.Prelude.{All}
use Rattle.std.proofs.lemmas.List.Elements.{All-head, All-tail}
use Rattle.turning_points.specs.Points.{points}
use Rattle.turning_points.specs.EndPoints.{last_point}
use Rattle.simple_counts.specs.level_crossing.Crossings.{crossings, start_level, has_level, IsCrossings, Crosses}
use Rattle.simple_counts.proofs.on_level_crossing.OfPoints.{crossings_few, crosses_points}
use Rattle.turning_points.specs.declared.ends.TheConstants.{MAX_POINTS}
use Rattle.calibration.specs.declared.grid.TheConstants.{MIN_CLASSES, MAX_CLASSES}

first_below : (k : ℕ) (p : List ℕ) → 1 ≤ k → All (λ x. x < k) p → start_level p < k
first_below k [] o a = omega arith
first_below k (x ∷ p) o a = All-head (λ y. y < k) x p a

last_below : (k : ℕ) (p : List ℕ) → 1 ≤ k → All (λ x. x < k) p → last_point p < k
last_below k [] o a = omega arith
last_below k (x ∷ []) o a = All-head (λ y. y < k) x [] a
last_below k (x ∷ y ∷ p) o a = last_below k (y ∷ p) o (All-tail (λ y. y < k) x (y ∷ p) a)

-- the parts that a value has after the points p
pub record Parts (k r : ℕ) (p : List ℕ) (some : Bool) (first last : ℕ) (b s : List ℕ) : Type 0 where
  pub is_some_of : some ≡ has_level p
  pub is_first : first ≡ start_level p
  pub is_last : last ≡ last_point p
  pub begins : length b ≡ k + 1
  pub stops : length s ≡ k + 1
  pub counts : (l : ℕ) → sum (take (l + 1) b) ≡ sum (take (l + 1) s) + crossings r l p
  pub enough : (i : ℕ) → sum (take (i + 1) s) ≤ sum (take i b)

pub filled_rules : {k r : ℕ} {p : List ℕ} {some : Bool} {first last : ℕ} {b s : List ℕ} → Parts k r p some first last b s →
    (MIN_CLASSES ≤ k) × (k ≤ MAX_CLASSES) → (1 ≤ r) × (r < k) → All (λ x. x < k) p → length p ≤ MAX_POINTS →
    IsCrossings (record { classes = k; reference = r; some = some; first = first; last = last; begins = b; stops = s })
filled_rules {k} {r} {p} g c d a f = record {
  classes = c;
  reference = d;
  begins = g.begins;
  stops = g.stops;
  first = subst (λ x. x < k) (sym g.is_first) (first_below k p (omega arith) a);
  last = subst (λ x. x < k) (sym g.is_last) (last_below k p (omega arith) a);
  enough = g.enough;
  few = λ i. omega (arith, g.counts i, crossings_few r i p);
}

pub filled_crosses : {k r : ℕ} {p : List ℕ} {some : Bool} {first last : ℕ} {b s : List ℕ} → Parts k r p some first last b s → (h : List ℕ) →
    points h ≡ p → Crosses (record { classes = k; reference = r; some = some; first = first; last = last; begins = b; stops = s }) h
filled_crosses {k} {r} {p} {some} {first} {last} {b} {s} g h e = crosses_points _ p h e
    (record { some = g.is_some_of; first = g.is_first; last = g.is_last; counts = λ l m n. omega (arith, g.counts l) })
