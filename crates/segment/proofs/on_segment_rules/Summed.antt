-- The sum rules: the tests find what the rules say.
use Rattle.std.proofs.Common.{◌≡◌, ℕ, ◌<◌, ◌≤◌, true, List, [], ◌∷◌, nat_lt, nat_le, None, refl, arith}
use Rattle.std.specs.Prelude.{All, ◌&&◌, ◌||◌, ◌==◌, not}
use Rattle.std.specs.List.{list_all}
use Rattle.std.proofs.lemmas.Bool.{cases_lt, and_parts, and_from, eqb-true, eq-eqb, ltb-true, lt-ltb, leb-true, le-leb}
use Rattle.std.proofs.lemmas.Bool.Decides.{nat_tests}
use Rattle.std.proofs.lemmas.List.Elements.{All-nil, All-cons, All-head, All-tail}
use Rattle.tally.specs.declared.cells.Bin.{Bin}
use Rattle.calibration.specs.declared.limits.TheConstants.{MAX_SAMPLES}
use Rattle.segment.specs.segment_rules.Parts.{PartsValue}
use Rattle.segment.specs.segment_rules.Rules.{SumsAgree}
use Rattle.segment.specs.segment_rules.Tests.{first_wrong_sum}
use Rattle.lemmas.proofs.Outcomes.{both_none, none_both}
use Rattle.segment.proofs.on_segment_rules.Chosen.{kept, kept_none}
use Rattle.segment.proofs.on_segment_rules.Ended.{end_ranges_of, end_ranges_true}

span_of : (a b : ℕ) → (nat_le a b && nat_le b MAX_SAMPLES) ≡ true → (a ≤ b) × (b ≤ MAX_SAMPLES)
span_of a b e = let t = and_parts (nat_le a b) (nat_le b MAX_SAMPLES) e in (leb-true _ _ t.0, leb-true _ _ t.1)

points_of : (n u : ℕ) → (nat_le n u && (not (n == 0) || (u == 0))) ≡ true → (n ≤ u) × (n ≡ 0 → u ≡ 0)
points_of n u e = (at_most n u e, λ z. zero_is n u e z)
  where
    at_most : (n u : ℕ) → (nat_le n u && (not (n == 0) || (u == 0))) ≡ true → n ≤ u
    at_most n u e = grind (arith, nat_tests)

    zero_is : (n u : ℕ) → (nat_le n u && (not (n == 0) || (u == 0))) ≡ true → n ≡ 0 → u ≡ 0
    zero_is n u e z = grind (arith, nat_tests)

points_true : (n u : ℕ) → n ≤ u → (n ≡ 0 → u ≡ 0) → (nat_le n u && (not (n == 0) || (u == 0))) ≡ true
points_true n u e f = grind (arith, nat_tests)

crossings_of : (u : ℕ) (bs : List Bin) → list_all (λ b. nat_lt b.n u) bs ≡ true → All (λ b. b.n < u) bs
crossings_of u [] e = All-nil (λ b. b.n < u)
crossings_of u (b ∷ bs) e =
    let t = and_parts (nat_lt b.n u) (list_all (λ b. nat_lt b.n u) bs) e in
    All-cons (λ b. b.n < u) b bs (ltb-true b.n u t.0) (crossings_of u bs t.1)

crossings_true : (u : ℕ) (bs : List Bin) → All (λ b. b.n < u) bs → list_all (λ b. nat_lt b.n u) bs ≡ true
crossings_true u [] a = refl
crossings_true u (b ∷ bs) a =
    and_from (nat_lt b.n u) (list_all (λ b. nat_lt b.n u) bs) (lt-ltb b.n u (All-head (λ b. b.n < u) b bs a))
    (crossings_true u bs (All-tail (λ b. b.n < u) b bs a))

pub summed_of : (p : PartsValue) → first_wrong_sum p ≡ None → SumsAgree p
unfolding first_wrong_sum
summed_of p e =
    let a = both_none _ _ e in
    let b = both_none _ _ a.1 in
    let c = both_none _ _ b.1 in
    let d = both_none _ _ c.1 in
    let f = both_none _ _ d.1 in
    let g = both_none _ _ f.1 in
    let h = both_none _ _ g.1 in
    let points = points_of p.ends.points p.used (kept _ _ c.0) in
    record {
      span = span_of p.name.from p.name.to (kept _ _ a.0);
      readings = eqb-true _ _ (kept _ _ b.0);
      points = points.0;
      no_points = points.1;
      cycles = eqb-true _ _ (kept _ _ d.0);
      crossings = crossings_of p.used p.crossings (kept _ _ f.0);
      extremes = leb-true _ _ (kept _ _ g.0);
      ranges = eqb-true _ _ (kept _ _ h.0);
      end_ranges = λ two. end_ranges_of p.ends p.ranges (kept _ _ h.1) two;
    }

pub summed_none : (p : PartsValue) → SumsAgree p → first_wrong_sum p ≡ None
unfolding first_wrong_sum
summed_none p s =
    none_both _ _ (kept_none _ _ (and_from (nat_le p.name.from p.name.to) (nat_le p.name.to MAX_SAMPLES) (le-leb _ _ s.span.0)
    (le-leb _ _ s.span.1)))
    (none_both _ _ (kept_none _ _ (eq-eqb _ _ s.readings))
    (none_both _ _ (kept_none _ _ (points_true p.ends.points p.used s.points s.no_points))
    (none_both _ _ (kept_none _ _ (eq-eqb _ _ s.cycles))
    (none_both _ _ (kept_none _ _ (crossings_true p.used p.crossings s.crossings))
    (none_both _ _ (kept_none _ _ (le-leb _ _ s.extremes))
    (none_both _ _ (kept_none _ _ (eq-eqb _ _ s.ranges))
    (kept_none _ _ (end_ranges_true p.ends p.ranges s.end_ranges (cases_lt p.ends.points 2)))))))))
