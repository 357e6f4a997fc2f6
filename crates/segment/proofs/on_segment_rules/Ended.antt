-- The other residue rules and the last sum rule: the tests find what the rules say.
use Rattle.std.proofs.Common.{◌≡◌, ◌⊎◌, inl, inr, ℕ, ◌-◌, ◌<◌, ◌≤◌, Bool, true, false, nat_lt, nat_le, List, length, refl, ap, ◌∙◌, arith}
use Rattle.std.specs.Prelude.{◌&&◌, ◌||◌, ◌==◌, not, if◌then◌else◌, slice_index}
use Rattle.std.proofs.lemmas.Bool.Decides.{nat_tests}
use Rattle.std.proofs.lemmas.Bool.{and_parts, and_from, eqb-true, eq-eqb, eqb-false, ltb-true, lt-ltb}
use Rattle.tally.specs.declared.cells.Bin.{Bin}
use Rattle.tally.specs.tables.Bins.{count_at}
use Rattle.turning_points.specs.Points.{is_turn}
use Rattle.turning_points.specs.EndPoints.{EndPoints, no_ends, only_point}
use Rattle.turning_points.proofs.Zigzag.{turn_test, turn_of_test}
use Rattle.turning_points.proofs.PushEnds.{five_same}
use Rattle.simple_counts.specs.Loading.{CountsEnds, first_range, last_range}
use Rattle.segment.specs.segment_rules.Rules.{HasEndsBeside, EndsAgree}
use Rattle.segment.specs.segment_rules.Tests.{are_end_ranges_counted, has_length, are_levels, has_ends_beside, has_ends}

-- ---- the last sum rule

-- the test, of the numbers of points, of both counts and of both ranges
abbrev ends_counted_test : ℕ → ℕ → ℕ → ℕ → ℕ → Bool
ends_counted_test a c d f l = nat_lt a 2 || (nat_le 1 c && (nat_le 1 d && (nat_lt a 3 || (not (f == l) || nat_le 2 c))))

pub end_ranges_of : (e : EndPoints) (ranges : List Bin) → are_end_ranges_counted e ranges ≡ true → 2 ≤ e.points → CountsEnds e ranges
end_ranges_of e ranges t le2 =
    let a = e.points in
    let f = first_range e in
    let l = last_range e in
    let c = count_at f ranges in
    let d = count_at l ranges in
    record { first = one_is a c d f l t le2; last = other_is a c d f l t le2; separate = λ le3 same. both_are a c d f l t le3 same }
  where
    one_is : (a c d f l : ℕ) → ends_counted_test a c d f l ≡ true → 2 ≤ a → 1 ≤ c
    one_is a c d f l t le2 = grind (arith, nat_tests)

    other_is : (a c d f l : ℕ) → ends_counted_test a c d f l ≡ true → 2 ≤ a → 1 ≤ d
    other_is a c d f l t le2 = grind (arith, nat_tests)

    both_are : (a c d f l : ℕ) → ends_counted_test a c d f l ≡ true → 3 ≤ a → f ≡ l → 2 ≤ c
    both_are a c d f l t le3 same = grind (arith, nat_tests)

few_points : (a : ℕ) (b : Bool) → a < 2 → (nat_lt a 2 || b) ≡ true
few_points a b lt = grind (arith, nat_tests)

all_counted : (a c d f l : ℕ) → 2 ≤ a → 1 ≤ c → 1 ≤ d → (3 ≤ a → f ≡ l → 2 ≤ c) → ends_counted_test a c d f l ≡ true
all_counted a c d f l le2 some other both = grind (arith, nat_tests)

pub end_ranges_true : (e : EndPoints) (ranges : List Bin) → (2 ≤ e.points → CountsEnds e ranges) → ((e.points < 2) ⊎ (2 ≤ e.points))
    → are_end_ranges_counted e ranges ≡ true
end_ranges_true e ranges h (inl lt) = few_points e.points _ lt
end_ranges_true e ranges h (inr le) =
    let c = h le in
    all_counted e.points (count_at (first_range e) ranges) (count_at (last_range e) ranges) (first_range e)
    (last_range e) le c.first c.last c.separate

-- ---- the length of the residue

length_of : (p n : ℕ) → has_length p n ≡ true → (p ≤ 3 → n ≡ p) × (4 ≤ p → 2 ≤ n)
length_of p n t = (λ h. grind (arith, nat_tests), λ h. grind (arith, nat_tests))

length_true : (p n : ℕ) → (p ≤ 3 → n ≡ p) → (4 ≤ p → 2 ≤ n) → has_length p n ≡ true
length_true p n a b = grind (arith, nat_tests)

-- ---- the ends

levels_of : (e : EndPoints) (p a b c d : ℕ) → e.points ≡ p → are_levels e a b c d ≡ true
    → e ≡ record { points = p; first = a; second = b; before = c; last = d }
levels_of e p a b c d is t =
    let u = and_parts (e.first == a && e.second == b) (e.before == c && e.last == d) t in
    let v = and_parts (e.first == a) (e.second == b) u.0 in
    let w = and_parts (e.before == c) (e.last == d) u.1 in
    five_same _ _ _ _ _ _ _ _ _ _ is (eqb-true _ _ v.0) (eqb-true _ _ v.1) (eqb-true _ _ w.0) (eqb-true _ _ w.1)

levels_true : (e : EndPoints) (p a b c d : ℕ) → e ≡ record { points = p; first = a; second = b; before = c; last = d }
    → are_levels e a b c d ≡ true
levels_true e p a b c d is =
    ap (λ (v : EndPoints). are_levels v a b c d) is
    ∙ and_from (a == a && b == b) (c == c && d == d) (and_from (a == a) (b == b) (eq-eqb a a refl) (eq-eqb b b refl))
    (and_from (c == c) (d == d) (eq-eqb c c refl) (eq-eqb d d refl))

both_where : (n p a b c d : ℕ) → (not (n == p) || (a == b && c == d)) ≡ true → n ≡ p → (a ≡ b) × (c ≡ d)
both_where n p a b c d t e = grind (arith, nat_tests)

where_true : (n p a b c d : ℕ) → (n ≡ p → (a ≡ b) × (c ≡ d)) → (not (n == p) || (a == b && c == d)) ≡ true
where_true n p a b c d h = grind (arith, nat_tests)

beside_of : (k : ℕ) (e : EndPoints) (a b c d : ℕ) → has_ends_beside k e a b c d ≡ true → HasEndsBeside k e a b c d
beside_of k e a b c d t =
    let u = and_parts (e.first == a && e.last == d) _ t in
    let ends = and_parts (e.first == a) (e.last == d) u.0 in
    let v = and_parts (is_turn e.second a b && is_turn e.before d c) _ u.1 in
    let sides = and_parts (is_turn e.second a b) (is_turn e.before d c) v.0 in
    let w = and_parts (nat_lt e.second k && nat_lt e.before k) _ v.1 in
    let below = and_parts (nat_lt e.second k) (nat_lt e.before k) w.0 in
    let x = and_parts (not (e.points == 2) || (e.second == b && e.before == c))
    (not (e.points == 3) || (e.second == b && e.before == b)) w.1 in
    record {
      first_is = eqb-true _ _ ends.0;
      last_is = eqb-true _ _ ends.1;
      second_side = turn_of_test e.second a b sides.0;
      before_side = turn_of_test e.before d c sides.1;
      second_below = ltb-true _ _ below.0;
      before_below = ltb-true _ _ below.1;
      two = both_where e.points 2 e.second b e.before c x.0;
      three = both_where e.points 3 e.second b e.before b x.1;
    }

beside_true : (k : ℕ) (e : EndPoints) (a b c d : ℕ) → HasEndsBeside k e a b c d → has_ends_beside k e a b c d ≡ true
beside_true k e a b c d m =
    and_from (e.first == a && e.last == d) _ (and_from (e.first == a) (e.last == d) (eq-eqb _ _ m.first_is)
    (eq-eqb _ _ m.last_is))
    (and_from (is_turn e.second a b && is_turn e.before d c) _
    (and_from (is_turn e.second a b) (is_turn e.before d c) (turn_test _ _ _ m.second_side) (turn_test _ _ _ m.before_side))
    (and_from (nat_lt e.second k && nat_lt e.before k) _
    (and_from (nat_lt e.second k) (nat_lt e.before k) (lt-ltb _ _ m.second_below) (lt-ltb _ _ m.before_below))
    (and_from (not (e.points == 2) || (e.second == b && e.before == c)) _ (where_true e.points 2 e.second b e.before c m.two)
    (where_true e.points 3 e.second b e.before b m.three))))

-- the ends, by how many points there are
record HasEnds (k : ℕ) (e : EndPoints) (r : List ℕ) : Type 0 where
  none_are : e.points ≡ 0 → e ≡ no_ends
  one_is : e.points ≡ 1 → e ≡ only_point (slice_index r 0)
  more_are : 2 ≤ e.points → HasEndsBeside k e (slice_index r 0) (slice_index r 1) (slice_index r (length r - 2))
      (slice_index r (length r - 1))

-- the test, by whether there is no point and whether there is one
abbrev by_points : ℕ → EndPoints → List ℕ → Bool → Bool → Bool
by_points k e r b c =
    if b then are_levels e 0 0 0 0 else
    if c then are_levels e (slice_index r 0) 0 0 (slice_index r 0) else
    has_ends_beside k e (slice_index r 0) (slice_index r 1) (slice_index r (length r - 2)) (slice_index r (length r - 1))

ends_by : (k : ℕ) (e : EndPoints) (r : List ℕ) (b c : Bool) → (e.points == 0) ≡ b → (e.points == 1) ≡ c → by_points k e r b c ≡ true
    → HasEnds k e r
ends_by k e r true c f g t =
    let is = eqb-true _ _ f in
    record {
      none_are = λ h. levels_of e 0 0 0 0 0 h t;
      one_is = λ h. absurd (omega (arith, is, h));
      more_are = λ h. absurd (omega (arith, is, h));
    }
ends_by k e r false true f g t =
    let is = eqb-true _ _ g in
    record {
      none_are = λ h. absurd (omega (arith, is, h));
      one_is = λ h. levels_of e 1 (slice_index r 0) 0 0 (slice_index r 0) h t;
      more_are = λ h. absurd (omega (arith, is, h));
    }
ends_by k e r false false f g t =
    record { none_are = λ h. absurd (eqb-false _ _ f h); one_is = λ h. absurd (eqb-false _ _ g h); more_are = λ h. beside_of k e _ _ _ _ t }

true_by : (k : ℕ) (e : EndPoints) (r : List ℕ) (b c : Bool) → (e.points == 0) ≡ b → (e.points == 1) ≡ c → HasEnds k e r
    → by_points k e r b c ≡ true
true_by k e r true c f g t = levels_true e 0 0 0 0 0 (t.none_are (eqb-true _ _ f))
true_by k e r false true f g t = levels_true e 1 (slice_index r 0) 0 0 (slice_index r 0) (t.one_is (eqb-true _ _ g))
true_by k e r false false f g t = beside_true k e _ _ _ _ (t.more_are (many e.points f g))
  where
    many : (n : ℕ) → (n == 0) ≡ false → (n == 1) ≡ false → 2 ≤ n
    many n f g = grind (arith, nat_tests)

pub ended_of : (k : ℕ) (e : EndPoints) (r : List ℕ) → has_length e.points (length r) ≡ true → has_ends k e r ≡ true → EndsAgree k e r
ended_of k e r l t =
    let n = length_of e.points (length r) l in
    let f = ends_by k e r _ _ refl refl t in
    record { short = n.0; long = n.1; none = f.none_are; one = f.one_is; more = f.more_are }

pub ended_true : (k : ℕ) (e : EndPoints) (r : List ℕ) → EndsAgree k e r → (has_length e.points (length r) ≡ true) × (has_ends k e r ≡ true)
ended_true k e r i = (
  length_true e.points (length r) i.short i.long,
  true_by k e r _ _ refl refl
      (record { none_are = i.none; one_is = i.one; more_are = i.more }),
)
