-- What is shown of gauges.
--   RowValue      what is shown of a gauge: the end of the name, the numbers of readings, and the half units by range
--   ViewValue     a row for each gauge, over a grid
--   row_of        the row of a segment
--   blank_view    the view in which all numbers are 0
--   IsView        there are at most 32 rows, each with a place for each range
--   IsKnown       the view has a row for the gauge
--   end_at        where the row of a gauge ends
--   AreAlike      two views of as many gauges, over one grid
use Rattle.std.specs.Prelude.{◌≡◌, ◌-◌, ◌<◌, ◌≤◌, ℕ, zero, suc, List, length, map, replicate, slice_index_or}
use Rattle.std.specs.List.{All, range_with_len}
use Rattle.calibration.specs.declared.limits.TheConstants.{MAX_GAUGES}
use Rattle.calibration.specs.Grid.{GridValue}
use Rattle.turning_points.specs.three_point.Sums.{sum_at_range}
use Rattle.segment.specs.Segment.{SegmentValue}
use Rattle.segment.specs.Figures.{halves_of}

pub record RowValue : Type 0 where
  pub to : ℕ
  pub used : ℕ
  pub missing : ℕ
  pub refused : ℕ
  pub halves : List ℕ

pub record ViewValue : Type 0 where
  pub grid : GridValue
  pub rows : List RowValue

-- the half units of all pairs so many classes apart
abbrev pub units_at : SegmentValue → ℕ → ℕ
units_at v zero = 0
units_at v (suc k) = sum_at_range (halves_of v) (suc k) (v.grid.classes - suc k)

abbrev pub half_units_of : SegmentValue → List ℕ
half_units_of v = map (units_at v) (range_with_len 0 v.grid.classes)

abbrev pub row_of : SegmentValue → RowValue
row_of v = record {
  to = v.to;
  used = v.used;
  missing = v.missing;
  refused = v.refused;
  halves = half_units_of v;
}

abbrev pub blank_row : ℕ → RowValue
blank_row classes = record { to = 0; used = 0; missing = 0; refused = 0; halves = replicate classes 0 }

abbrev pub blank_view : GridValue → ℕ → ViewValue
blank_view grid gauges = record { grid = grid; rows = replicate gauges (blank_row grid.classes) }

abbrev pub IsRow : ℕ → RowValue → Type 0
IsRow classes r = length r.halves ≡ classes

abbrev pub IsView : ViewValue → Type 0
IsView v = (length v.rows ≤ MAX_GAUGES) × All (IsRow v.grid.classes) v.rows

abbrev pub IsKnown : ViewValue → ℕ → Type 0
IsKnown v gauge = gauge < length v.rows

abbrev pub row_at : ViewValue → ℕ → RowValue
row_at v gauge = slice_index_or v.rows gauge (blank_row 0)

abbrev pub end_at : ViewValue → ℕ → ℕ
end_at v gauge = (row_at v gauge).to

abbrev pub AreAlike : ViewValue → ViewValue → Type 0
AreAlike v w = (v.grid ≡ w.grid) × (length v.rows ≡ length w.rows)
