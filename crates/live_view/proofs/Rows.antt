-- The half units of a segment by range.
--   halves_are                from what each place is
--   length-half_units_of      there is one for each class
use Rattle.std.proofs.Common.{◌≡◌, ◌<◌, ◌≤◌, ◌-◌, ℕ, zero, suc, List, length, get_or, arith}
use Rattle.std.proofs.lemmas.List.FromFn.{fill_by_all, length-map-range_with_len}
use Rattle.turning_points.specs.three_point.Sums.{sum_at_range}
use Rattle.segment.specs.Segment.{SegmentValue}
use Rattle.segment.specs.Figures.{halves_of}
use Rattle.live_view.specs.View.{half_units_of, units_at}

units_are : (v : SegmentValue) (out : List ℕ) → get_or out 0 0 ≡ 0 →
    ((k : ℕ) → 1 ≤ k → k < v.grid.classes → get_or out k 0 ≡ sum_at_range (halves_of v) k (v.grid.classes - k)) →
    (k : ℕ) → k < v.grid.classes → get_or out k 0 ≡ units_at v k
units_are v out none each zero h = none
units_are v out none each (suc k) h = each (suc k) (omega arith) h

pub halves_are : (v : SegmentValue) (out : List ℕ) → length out ≡ v.grid.classes → get_or out 0 0 ≡ 0 →
    ((k : ℕ) → 1 ≤ k → k < v.grid.classes → get_or out k 0 ≡ sum_at_range (halves_of v) k (v.grid.classes - k)) →
    out ≡ half_units_of v
halves_are v out long none each = fill_by_all (units_at v) out v.grid.classes 0 long (units_are v out none each)

pub length-half_units_of : (v : SegmentValue) → length (half_units_of v) ≡ v.grid.classes
length-half_units_of v = length-map-range_with_len (units_at v) 0 v.grid.classes
