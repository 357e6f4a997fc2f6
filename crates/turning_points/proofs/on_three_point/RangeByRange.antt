-- A list of ranges, one after the other, and half units by range.
--   within_first                the range at place i, and those behind it, lie within the bound
--   half_units_at_range-first   its half units, and those of the ranges behind it
--   half_units_at_range-past    behind the last range there are none
--   half_units_at_range-pushed, raised_place   one range more
use Rattle.std.proofs.Common.{◌≡◌, ◌≢◌, ℕ, ◌+◌, ◌-◌, ◌<◌, ◌≤◌, ◌⊎◌, inl, inr, ◌==◌, if◌then◌else◌, List, [], ◌∷◌, ◌++◌, length, drop, set, get_or, ap, ◌∙◌, subst, arith, get_or-set_same, get_or-set_other}
use Rattle.std.specs.Prelude.{All}
use Rattle.std.proofs.lemmas.Bool.{cases_eq}
use Rattle.std.proofs.lemmas.Bool.Decides.{nat_tests}
use Rattle.std.proofs.lemmas.List.{drop_all, drop_more}
use Rattle.std.proofs.lemmas.List.Elements.{All-head, All-tail}
use Rattle.turning_points.specs.three_point.Run.{CountedRange, half_units_at_range}
use Rattle.turning_points.specs.three_point.Ranges.{counted_range_of, counted_ranges}
use Rattle.turning_points.specs.three_point.Bounds.{IsWithin}
use Rattle.turning_points.specs.declared.three_point.ranges.Range.{Range}

-- the half units of one range, at the length k
abbrev pub units_at : ℕ → Range → ℕ
units_at k r = if k == r.hi - r.lo then r.halves else 0

pub record First (n : ℕ) (r : Range) (left : List Range) : Type 0 where
  pub is : IsWithin n (counted_range_of r)
  pub others : All (IsWithin n) (counted_ranges left)

pub within_first : (n : ℕ) (ranges : List Range) (i : ℕ) (d : Range) → i < length ranges →
    All (IsWithin n) (counted_ranges (drop i ranges)) → First n (get_or ranges i d) (drop (i + 1) ranges)
within_first n ranges i d inside w =
    let r = get_or ranges i d in
    let all = subst (λ (l : List Range). All (IsWithin n) (counted_ranges l)) (drop_more ranges i d inside) w in
    record {
      is = All-head (IsWithin n) (counted_range_of r) (counted_ranges (drop (i + 1) ranges)) all;
      others = All-tail (IsWithin n) (counted_range_of r) (counted_ranges (drop (i + 1) ranges)) all;
    }

pub half_units_at_range-first : (k : ℕ) (ranges : List Range) (i : ℕ) (d : Range) → i < length ranges →
    half_units_at_range k (counted_ranges (drop i ranges)) ≡ units_at k (get_or ranges i d) + half_units_at_range k
    (counted_ranges (drop (i + 1) ranges))
half_units_at_range-first k ranges i d inside =
    ap (λ (l : List Range). half_units_at_range k (counted_ranges l)) (drop_more ranges i d inside)

pub half_units_at_range-past : (k : ℕ) (ranges : List Range) (i : ℕ) → length ranges ≤ i →
    half_units_at_range k (counted_ranges (drop i ranges)) ≡ 0
half_units_at_range-past k ranges i past = ap (λ (l : List Range). half_units_at_range k (counted_ranges l)) (drop_all i ranges past)

-- one range more
pub half_units_at_range-pushed : (k : ℕ) (l : List CountedRange) (r : CountedRange) →
    half_units_at_range k (l ++ r ∷ []) ≡ half_units_at_range k l + (if k == r.pair.hi - r.pair.lo then r.halves else 0)
half_units_at_range-pushed k [] r = omega arith
half_units_at_range-pushed k (x ∷ l) r = omega (arith, half_units_at_range-pushed k l r)

raised_at : (s : List ℕ) (at v : ℕ) (r : CountedRange) (given : List CountedRange) → at < length s → at ≡ r.pair.hi - r.pair.lo →
    v ≡ get_or s at 0 + r.halves
    → (k : ℕ) → get_or s k 0 ≡ half_units_at_range k given → ((k ≡ at) ⊎ (k ≢ at)) →
    get_or (set s at v) k 0 ≡ half_units_at_range k (given ++ r ∷ [])
raised_at s at v r given inside e f k h (inl g) =
    let a : get_or (set s at v) k 0 ≡ v = ap (λ i. get_or (set s at v) i 0) g ∙ get_or-set_same s at v 0 inside in
    let b : get_or s k 0 ≡ get_or s at 0 = ap (λ i. get_or s i 0) g in
    let c : (if k == r.pair.hi - r.pair.lo then r.halves else 0) ≡ r.halves = grind (arith, nat_tests) in
    omega (arith, a, b, c, f, h, half_units_at_range-pushed k given r)
raised_at s at v r given inside e f k h (inr g) =
    let c : (if k == r.pair.hi - r.pair.lo then r.halves else 0) ≡ 0 = grind (arith, nat_tests) in
    omega (arith, get_or-set_other s at k v 0 g, c, h, half_units_at_range-pushed k given r)

-- a table of half units by range, in which the place of one range more was raised
pub raised_place : (s : List ℕ) (at v : ℕ) (r : CountedRange) (given : List CountedRange) → at < length s → at ≡ r.pair.hi - r.pair.lo →
    v ≡ get_or s at 0 + r.halves
    → ((k : ℕ) → k < length s → get_or s k 0 ≡ half_units_at_range k given) → (k : ℕ) → k < length s →
    get_or (set s at v) k 0 ≡ half_units_at_range k (given ++ r ∷ [])
raised_place s at v r given inside e f h k w = raised_at s at v r given inside e f k (h k w) (cases_eq k at)
