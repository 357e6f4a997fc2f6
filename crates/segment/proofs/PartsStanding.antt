-- A segment stands for what its parts stand for.
--   parts_stand   where a segment stands for samples, its parts do
--   parts_tell    and where its parts do, the segment does
use Rattle.std.proofs.Common.{◌≡◌, ◌≢◌, ℕ, ℤ, ◌-◌, ◌<◌, ◌≤◌, ◌⊎◌, inl, inr, List, [], ◌∷◌, length, nat_le, refl, sym, ap, ◌∙◌, arith}
use Rattle.std.specs.Prelude.{not, ◌==◌, if◌then◌else◌, slice_index}
use Rattle.std.proofs.lemmas.Bool.{cases_lt}
use Rattle.std.proofs.lemmas.Bool.Decides.{nat_tests}
use Rattle.calibration.specs.Gain.{GainValue}
use Rattle.calibration.specs.History.{history}
use Rattle.turning_points.specs.Points.{points}
use Rattle.turning_points.specs.Pairs.{range}
use Rattle.turning_points.specs.EndPoints.{EndPoints}
use Rattle.tally.specs.tables.Bins.{count_at}
use Rattle.tally.specs.tables.Tables.{is_at}
use Rattle.tally.proofs.on_tables.Filled.{count_above, count_below}
use Rattle.simple_counts.specs.level_crossing.Crossings.{Crosses, crossing_count, crossings, start_level, has_level}
use Rattle.simple_counts.proofs.on_level_crossing.OfPoints.{crosses_points, crossings_points}
use Rattle.simple_counts.specs.level_crossing.Extremes.{extremes_at}
use Rattle.simple_counts.specs.Simple.{CountsHistory, open_at, peak_count, range_count, peaks_at, valleys_at, valley_count}
use Rattle.simple_counts.proofs.Readers.{peak_counts, range_counts, valley_counts}
use Rattle.simple_counts.proofs.Triples.{peaks_are, ranges_are, valleys_are}
use Rattle.segment.specs.Segment.{SegmentValue, IsSegment, Stands}
use Rattle.segment.specs.Parts.{bins_from, parts_of}
use Rattle.segment.specs.Standing.{PartsStand}
use Rattle.segment.proofs.Listing.{bins_count, bins_ordered}
use Rattle.segment.proofs.PartsRules.{at_or_above, under_reference}

below_peak : (r l x : ℕ) → l < r → (if nat_le r l then x else 0) ≡ 0
below_peak r l x h = grind (arith, nat_tests)

above_valley : (r l x : ℕ) → r ≤ l → (if nat_le r l then 0 else x) ≡ 0
above_valley r l x h = grind (arith, nat_tests)

no_open : (e : EndPoints) → (2 ≤ e.points → e.before ≢ e.last) → open_at 0 e ≡ 0
no_open e d = by e.points e.before e.last d
  where
    by : (n a b : ℕ) → (2 ≤ n → a ≢ b) → (if nat_le 2 n then is_at 0 (range a b) else 0) ≡ 0
    by n a b d = grind (arith, nat_tests)

some_points : (p : List ℕ) → not (length p == 0) ≡ has_level p
some_points [] = refl
some_points (x ∷ p) = grind (arith, nat_tests)

-- what the lists of the parts tell is what the segment tells
module _ (v : SegmentValue) (i : IsSegment v) where
  crossing_listed : (l : ℕ) → 1 ≤ l → l < v.grid.classes →
      count_at l (bins_from (crossing_count v.crossings) 1 (v.grid.classes - 1)) ≡ crossing_count v.crossings l
  crossing_listed l from to = bins_count (crossing_count v.crossings) 1 (v.grid.classes - 1) l from (omega (arith, from, to))

  peak_listed : (l : ℕ) → l < v.grid.classes →
      count_at l (bins_from (peak_count v.simple) v.grid.reference (v.grid.classes - v.grid.reference)) ≡ peak_count v.simple l
  peak_listed l to = by (cases_lt l v.grid.reference)
    where
      by : ((l < v.grid.reference) ⊎ (v.grid.reference ≤ l)) →
          count_at l (bins_from (peak_count v.simple) v.grid.reference (v.grid.classes - v.grid.reference)) ≡ peak_count v.simple l
      by (inl under) =
          let order = bins_ordered (peak_count v.simple) v.grid.reference v.grid.classes (v.grid.classes - v.grid.reference)
          (omega (arith, i.over.limits.reference_to)) in
          count_below v.grid.reference v.grid.classes l _ order under
          ∙ sym (below_peak v.simple.reference l (slice_index v.simple.extremes l) (omega (arith, under, i.over.simple.1)))
      by (inr over) = bins_count (peak_count v.simple) v.grid.reference (v.grid.classes - v.grid.reference) l over (omega (arith, over, to))

  valley_listed : (l : ℕ) → l < v.grid.classes →
      count_at l (bins_from (valley_count v.simple) 0 v.grid.reference) ≡ valley_count v.simple l
  valley_listed l to = by (cases_lt l v.grid.reference)
    where
      by : ((l < v.grid.reference) ⊎ (v.grid.reference ≤ l)) →
          count_at l (bins_from (valley_count v.simple) 0 v.grid.reference) ≡ valley_count v.simple l
      by (inl under) = bins_count (valley_count v.simple) 0 v.grid.reference l (omega arith) (omega (arith, under))
      by (inr over) =
          let order = bins_ordered (valley_count v.simple) 0 v.grid.reference v.grid.reference (omega arith) in
          count_above 0 v.grid.reference l _ order over
          ∙ sym (above_valley v.simple.reference l (slice_index v.simple.extremes l) (omega (arith, over, i.over.simple.1)))

  range_listed : (k : ℕ) → k < v.grid.classes →
      count_at k (bins_from (range_count v.simple) 1 (v.grid.classes - 1)) ≡ range_count v.simple k
  range_listed k to = by k to (cases_lt k 1)
    where
      by : (k : ℕ) → k < v.grid.classes → ((k < 1) ⊎ (1 ≤ k)) →
          count_at k (bins_from (range_count v.simple) 1 (v.grid.classes - 1)) ≡ range_count v.simple k
      by k to (inl none) =
          let order = bins_ordered (range_count v.simple) 1 v.grid.classes (v.grid.classes - 1) (omega (arith, to)) in
          let zero_is : k ≡ 0 = omega (arith, none) in
          count_below 1 v.grid.classes k _ order none
          ∙ sym (ap (range_count v.simple) zero_is ∙ omega (
            arith,
            i.simple.none_at_zero,
            no_open v.simple.ends (λ m. (i.simple.ends.differ m).1),
          ))
      by k to (inr some) = bins_count (range_count v.simple) 1 (v.grid.classes - 1) k some (omega (arith, some, to))

  module _ (gain : GainValue) (w : List ℤ) where
    abbrev h : List ℕ
    h = history v.grid gain w

    pub parts_stand : Stands v gain w → PartsStand v.grid gain (parts_of v) w
    parts_stand s =
        let c = s.history.simple in
        record {
          span = s.span;
          used = s.history.used;
          missing = s.missing;
          refused = s.refused;
          ends = c.ends;
          result = s.history.result;
          crossings_are = λ l from to.
              crossing_listed l from to ∙ s.history.crossings.counts l from (omega (arith, to, i.over.crossings.0))
              ∙ ap (λ r. crossings r l h) i.over.crossings.1;
          peaks_are = λ l to. peak_listed l to ∙ peak_counts v.simple h l (omega (arith, to, i.over.simple.0)) c
              ∙ ap (λ r. peaks_at r l (points h)) i.over.simple.1;
          valleys_are = λ l to. valley_listed l to ∙ valley_counts v.simple h l (omega (arith, to, i.over.simple.0)) c
              ∙ ap (λ r. valleys_at r l (points h)) i.over.simple.1;
          ranges_are = λ k to. range_listed k to ∙ range_counts v.simple h k (omega (arith, to, i.over.simple.0)) c;
        }

    crosses_by : PartsStand v.grid gain (parts_of v) w → Crosses v.crossings h
    crosses_by p =
        crosses_points v.crossings (points h) h refl
        (record {
          some = i.ends.0 ∙ ap (λ (e : EndPoints). not (e.points == 0)) p.ends ∙ some_points (points h);
          first = i.ends.1 ∙ ap (λ (e : EndPoints). e.first) p.ends ∙ first_points (points h);
          last = i.ends.2 ∙ ap (λ (e : EndPoints). e.last) p.ends;
          counts = λ l from to.
              let within : l < v.grid.classes = omega (arith, to, i.over.crossings.0) in
              sym (crossing_listed l from within) ∙ p.crossings_are l from within ∙ sym (crossings_points v.grid.reference l h)
              ∙ ap (λ r. crossings r l (points h)) (sym i.over.crossings.1);
        })
      where
        first_points : (p : List ℕ) → slice_index p 0 ≡ start_level p
        first_points [] = refl
        first_points (x ∷ p) = refl

    counts_by : PartsStand v.grid gain (parts_of v) w → CountsHistory v.simple h
    counts_by p = record {
      ends = p.ends;
      decided = λ k to.
          let within : k < v.grid.classes = omega (arith, to, i.over.simple.0) in
          omega (arith, range_listed k within, p.ranges_are k within, ranges_are k (points h), ap (open_at k) p.ends);
      extremes = λ l to. extreme l (omega (arith, to, i.over.simple.0)) (cases_lt l v.simple.reference);
    }
      where
        extreme : (l : ℕ) → l < v.grid.classes → ((l < v.simple.reference) ⊎ (v.simple.reference ≤ l)) →
            slice_index v.simple.extremes l ≡ extremes_at v.simple.reference l (points h)
        extreme l to (inl under) =
            sym (under_reference v.simple.reference l (slice_index v.simple.extremes l) under) ∙ sym (valley_listed l to)
            ∙ p.valleys_are l to
            ∙ ap (λ r. valleys_at r l (points h)) (sym i.over.simple.1) ∙ valleys_are v.simple.reference l (points h) under
        extreme l to (inr over) =
            sym (at_or_above v.simple.reference l (slice_index v.simple.extremes l) over) ∙ sym (peak_listed l to) ∙ p.peaks_are l to
            ∙ ap (λ r. peaks_at r l (points h)) (sym i.over.simple.1) ∙ peaks_are v.simple.reference l (points h) over

    pub parts_tell : PartsStand v.grid gain (parts_of v) w → Stands v gain w
    parts_tell p = record {
      span = p.span;
      missing = p.missing;
      refused = p.refused;
      history = record { used = p.used; result = p.result; crossings = crosses_by p; simple = counts_by p };
    }
