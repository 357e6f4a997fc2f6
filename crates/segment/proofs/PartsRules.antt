-- A segment's parts keep the rules of parts.
use Rattle.std.proofs.Common.{◌≡◌, ◌≢◌, ℕ, ◌+◌, ◌-◌, ◌<◌, ◌≤◌, ◌⊎◌, inl, inr, List, length, nat_le, refl, sym, ap, subst, ◌∙◌, arith}
use Rattle.std.specs.Prelude.{All, if◌then◌else◌, slice_index}
use Rattle.std.proofs.lemmas.Bool.{cases_lt}
use Rattle.std.proofs.lemmas.Bool.Decides.{nat_tests}
use Rattle.turning_points.specs.Pairs.{range}
use Rattle.turning_points.specs.EndPoints.{EndPoints, IsEnds, ends_of}
use Rattle.turning_points.specs.Points.{IsTurn, OnSide}
use Rattle.turning_points.proofs.EndPlaces.{last_place, before_place}
use Rattle.turning_points.proofs.PushEnds.{five_same}
use Rattle.tally.specs.Counts.{IsCell, IsCounts}
use Rattle.tally.specs.tables.Bins.{count_at, sum_of}
use Rattle.tally.specs.tables.Tables.{is_at}
use Rattle.simple_counts.specs.level_crossing.Crossings.{crossing_count}
use Rattle.simple_counts.specs.Simple.{SimpleValue, IsSimple, open_at, peak_count, range_count, valley_count}
use Rattle.simple_counts.specs.Loading.{CountsEnds, first_range, last_range}
use Rattle.segment.specs.segment_rules.Rules.{AreCells, HasEndsBeside, EndsAgree, IsOrdered, SumsAgree, AreSegmentParts}
use Rattle.segment.specs.Alike.{Alike}
use Rattle.segment.specs.Segment.{SegmentValue, IsSegment}
use Rattle.segment.specs.Parts.{bins_from, parts_of}
use Rattle.segment.proofs.Listing.{bins_count, bins_ordered}
use Rattle.segment.proofs.TableSums.{sum_from, listed_sum, listed_below, sum_same, sum_parts, sum_both, table_sum, sum_one, sum_zero}

range_within : (k a b : ℕ) → a < k → b < k → a ≢ b → (1 ≤ range a b) × (range a b < k)
range_within k a b p q n = (grind arith, omega arith)

pub at_or_above : (r l x : ℕ) → r ≤ l → (if nat_le r l then x else 0) ≡ x
at_or_above r l x h = grind (arith, nat_tests)

pub under_reference : (r l x : ℕ) → l < r → (if nat_le r l then 0 else x) ≡ x
under_reference r l x h = grind (arith, nat_tests)

few_open : (n x : ℕ) → n < 2 → (if nat_le 2 n then x else 0) ≡ 0
few_open n x h = grind (arith, nat_tests)

many_open : (n x : ℕ) → 2 ≤ n → (if nat_le 2 n then x else 0) ≡ x
many_open n x h = grind (arith, nat_tests)

-- the tables of extremes and of ranges, in sums
module _ (v : SimpleValue) (s : IsSimple v) where
  peaks_sum : sum_of (bins_from (peak_count v) v.reference (v.classes - v.reference)) ≡ sum_from (slice_index v.extremes) v.reference
      (v.classes - v.reference)
  peaks_sum =
      listed_sum (peak_count v) v.reference (v.classes - v.reference)
      ∙ sum_same (peak_count v) (slice_index v.extremes) v.reference (v.classes - v.reference)
      (λ k from to. at_or_above v.reference k (slice_index v.extremes k) from)

  valleys_sum : sum_of (bins_from (valley_count v) 0 v.reference) ≡ sum_from (slice_index v.extremes) 0 v.reference
  valleys_sum =
      listed_sum (valley_count v) 0 v.reference
      ∙ sum_same (valley_count v) (slice_index v.extremes) 0 v.reference
      (λ k from to. under_reference v.reference k (slice_index v.extremes k)
      (omega (arith, to)))

  pub extremes_sum : sum_of (bins_from (peak_count v) v.reference (v.classes - v.reference)) + sum_of
      (bins_from (valley_count v) 0 v.reference) ≤ v.ends.points - 2
  extremes_sum =
      let parts = sum_parts (slice_index v.extremes) 0 v.reference (v.classes - v.reference) in
      let all : v.reference + (v.classes - v.reference) ≡ length v.extremes = omega (arith, s.extremes, s.reference.1) in
      let from : 0 + v.reference ≡ v.reference = omega arith in
      omega (
        arith,
        peaks_sum,
        valleys_sum,
        parts,
        ap (sum_from (slice_index v.extremes) 0) all,
        ap (λ a. sum_from (slice_index v.extremes) a (v.classes - v.reference)) from,
        table_sum v.extremes,
        s.agrees.few,
      )

  decided_sum : sum_from (slice_index v.decided) 1 (v.classes - 1) ≡ v.ends.points - 2
  decided_sum =
      let parts = sum_parts (slice_index v.decided) 0 1 (v.classes - 1) in
      let all : 1 + (v.classes - 1) ≡ length v.decided = omega (arith, s.decided, s.classes.0) in
      omega (arith, parts, ap (sum_from (slice_index v.decided) 0) all, table_sum v.decided, s.none_at_zero, s.agrees.sum_of)

  open_sum : ((v.ends.points < 2) ⊎ (2 ≤ v.ends.points)) →
      v.ends.points - 2 + sum_from (λ k. open_at k v.ends) 1 (v.classes - 1) ≡ v.ends.points - 1
  open_sum (inl few) =
      let none = sum_same (λ k. open_at k v.ends) (λ k. 0) 1 (v.classes - 1)
      (λ k from to. few_open v.ends.points (is_at k (last_range v.ends)) few) in
      omega (arith, few, none, sum_zero 1 (v.classes - 1))
  open_sum (inr many) =
      let w = s.ends.below in
      let r = range_within v.classes v.ends.before v.ends.last w.2 w.3 (s.ends.differ many).1 in
      let one = sum_same (λ k. open_at k v.ends) (λ k. is_at k (last_range v.ends)) 1 (v.classes - 1)
      (λ k from to. many_open v.ends.points (is_at k (last_range v.ends)) many) in
      omega (arith, many, one, sum_one (last_range v.ends) 1 (v.classes - 1) r.0 (omega (arith, r.1)))

  pub ranges_sum : sum_of (bins_from (range_count v) 1 (v.classes - 1)) ≡ v.ends.points - 1
  ranges_sum =
      omega (
        arith,
        listed_sum (range_count v) 1 (v.classes - 1),
        sum_both (slice_index v.decided) (λ k. open_at k v.ends) 1 (v.classes - 1),
        decided_sum,
        open_sum (cases_lt v.ends.points 2),
      )

  -- a range is counted by its bin
  told : (a b : ℕ) → a < v.classes → b < v.classes → a ≢ b →
      count_at (range a b) (bins_from (range_count v) 1 (v.classes - 1)) ≡ range_count v (range a b)
  told a b p q n = let r = range_within v.classes a b p q n in bins_count (range_count v) 1 (v.classes - 1) (range a b) r.0
      (omega (arith, r.1))

  open_here : (k : ℕ) (e : EndPoints) → 2 ≤ e.points → k ≡ last_range e → open_at k e ≡ 1
  open_here k e many same = grind (arith, nat_tests)

  open_two : 2 ≤ v.ends.points → v.ends.points < 3 → first_range v.ends ≡ last_range v.ends
  open_two many few =
      let two = s.ends.two (omega (arith, many, few)) in
      sym (ap (λ x. range x v.ends.last) two.0 ∙ ap (range v.ends.first) two.1)

  first_counted : 2 ≤ v.ends.points → ((v.ends.points < 3) ⊎ (3 ≤ v.ends.points)) → 1 ≤ range_count v (first_range v.ends)
  first_counted many (inl few) = omega (arith, open_here (first_range v.ends) v.ends many (open_two many few))
  first_counted many (inr le) = omega (arith, s.agrees.first le)

  pub ends_counted : 2 ≤ v.ends.points → CountsEnds v.ends (bins_from (range_count v) 1 (v.classes - 1))
  ends_counted many =
      let w = s.ends.below in
      let d = s.ends.differ many in
      let first = told v.ends.first v.ends.second w.0 w.1 d.0 in
      let last = told v.ends.before v.ends.last w.2 w.3 d.1 in
      record {
        first = omega (arith, first, first_counted many (cases_lt v.ends.points 3));
        last = omega (arith, last, open_here (last_range v.ends) v.ends many refl);
        separate = λ three same. omega (arith, first, s.agrees.first three, open_here (first_range v.ends) v.ends many same);
      }

-- the ends lie beside the residue
turn_of_side : (p x n : ℕ) (q : ℕ) → q ≡ p → OnSide p x n → IsTurn x q n
turn_of_side p x n q e h = grind arith

module _ (k : ℕ) (e : EndPoints) (r : List ℕ) (i : IsEnds k e) (a : Alike e (ends_of r)) where
  beside : 2 ≤ e.points → HasEndsBeside k e (slice_index r 0) (slice_index r 1) (slice_index r (length r - 2))
      (slice_index r (length r - 1))
  beside m =
      let long = a.long m in
      let last = last_place r (length r - 1) (omega (arith, long)) in
      let before = before_place r (length r - 2) (omega (arith, long)) in
      record {
        first_is = sym a.first;
        last_is = sym (last ∙ a.last);
        second_side = turn_of_side e.first e.second (slice_index r 1) (slice_index r 0) a.first (a.second m);
        before_side = turn_of_side e.last e.before (slice_index r (length r - 2)) (slice_index r (length r - 1)) (last ∙ a.last)
            (subst (OnSide e.last e.before) (sym before) (a.before m));
        second_below = i.below.1;
        before_below = i.below.2;
        two = λ z.
            let t = i.two z in
            let n : length r ≡ 2 = a.short (omega (arith, z)) ∙ z in (
              sym t.1 ∙ sym a.last ∙ sym last ∙ ap (slice_index r) (omega (arith, n)),
              t.0 ∙ sym a.first ∙ ap (slice_index r) (omega (arith, n)),
            );
        three = λ z. let t = i.three z in (sym (a.three z), t.0 ∙ sym (a.three z));
      }

  pub ended : EndsAgree k e r
  ended = record {
    short = a.short;
    long = λ h. a.long (omega (arith, h));
    none = λ z. let n = i.none z in five_same _ _ _ _ _ _ _ _ _ _ z n.0 n.1 n.2 n.3;
    one = λ z. let o = i.one z in five_same _ _ _ _ _ _ _ _ _ _ z (sym a.first) o.0 o.1 (o.2 ∙ sym a.first);
    more = beside;
  }

module _ (v : SegmentValue) (s : IsSegment v) where
  classes_are : v.simple.classes ≡ v.grid.classes
  classes_are = s.over.simple.0

  reference_is : v.simple.reference ≡ v.grid.reference
  reference_is = s.over.simple.1

  ordered_parts : AreCells v.grid.classes v.tally.cells → IsOrdered v.grid (parts_of v)
  ordered_parts cells =
      let g = s.over.limits in
      let f = g.classes_from in
      let h = g.reference_to in
      record {
        cells = cells;
        crossings = bins_ordered (crossing_count v.crossings) 1 v.grid.classes (v.grid.classes - 1) (omega (arith, f));
        peaks = bins_ordered (peak_count v.simple) v.grid.reference v.grid.classes (v.grid.classes - v.grid.reference) (omega (arith, h));
        valleys = bins_ordered (valley_count v.simple) 0 v.grid.reference v.grid.reference (omega arith);
        ranges = bins_ordered (range_count v.simple) 1 v.grid.classes (v.grid.classes - 1) (omega (arith, f));
      }

  summed_parts : SumsAgree (parts_of v)
  summed_parts = record {
    span = s.span;
    readings = omega (arith, s.readings, s.span.0);
    points = s.used;
    no_points = s.none;
    cycles = omega (arith, s.balance);
    crossings = listed_below (crossing_count v.crossings) v.used 1 (v.grid.classes - 1) s.crossed;
    extremes =
        subst (λ r. sum_of (bins_from (peak_count v.simple) r (v.grid.classes - r)) + sum_of (bins_from (valley_count v.simple) 0 r) ≤
        v.simple.ends.points - 2) reference_is
        (subst (λ k. sum_of (bins_from (peak_count v.simple) v.simple.reference (k - v.simple.reference)) + sum_of
        (bins_from (valley_count v.simple) 0 v.simple.reference)
        ≤ v.simple.ends.points - 2) classes_are (extremes_sum v.simple s.simple));
    ranges = subst (λ k. sum_of (bins_from (range_count v.simple) 1 (k - 1)) ≡ v.simple.ends.points - 1) classes_are
        (ranges_sum v.simple s.simple);
    end_ranges = λ two. subst (λ k. CountsEnds v.simple.ends (bins_from (range_count v.simple) 1 (k - 1))) classes_are
        (ends_counted v.simple s.simple two);
  }

  -- the rules of a segment are those of its parts
  pub parts_kept : AreCells v.grid.classes v.tally.cells → AreSegmentParts v.grid (parts_of v)
  parts_kept cells = record {
    ordered = ordered_parts cells;
    summed = summed_parts;
    residue = s.residue;
    ended = subst (λ k. EndsAgree k v.simple.ends v.reducer.residue) classes_are
        (ended v.simple.classes v.simple.ends v.reducer.residue s.simple.ends s.alike);
  }

-- of any segment, whose tally is one
pub parts_kept_by : (v w : SegmentValue) → v ≡ w → IsSegment v → IsCounts v.tally → AreSegmentParts w.grid (parts_of w)
parts_kept_by v w e s t =
    subst (λ u. AreSegmentParts u.grid (parts_of u)) e
    (parts_kept v s (record { each = subst (λ k. All (IsCell k) v.tally.cells) s.over.tally t.each; ascending = t.ascending }))
