-- What a `Simple` takes over in place of its own counts.
--   first_range, last_range   the ranges between the first two points and between the last two
--   CountsEnds    both are among the ranges, of three or more points as two half units
--   CanLoad       ends, peaks, valleys and ranges that it can take over
--   loaded_of     the value with them
use Rattle.std.specs.Prelude.{◌≡◌, ◌≤◌, ℕ, ◌+◌, ◌-◌, nat_le, if◌then◌else◌, List, replicate}
use Rattle.tally.specs.declared.cells.Bin.{Bin}
use Rattle.turning_points.specs.Pairs.{range}
use Rattle.turning_points.specs.EndPoints.{EndPoints, IsEnds}
use Rattle.tally.specs.tables.Tables.{table_with_bins, lower}
use Rattle.tally.specs.tables.Bins.{AreBinsFrom, count_at, sum_of}
use Rattle.simple_counts.specs.Simple.{SimpleValue}
use Rattle.turning_points.specs.declared.ends.TheConstants.{MAX_POINTS}

abbrev pub first_range : EndPoints → ℕ
first_range e = range e.first e.second

abbrev pub last_range : EndPoints → ℕ
last_range e = range e.before e.last

pub record CountsEnds (e : EndPoints) (ranges : List Bin) : Type 0 where
  pub first : 1 ≤ count_at (first_range e) ranges
  pub last : 1 ≤ count_at (last_range e) ranges
  pub separate : 3 ≤ e.points → first_range e ≡ last_range e → 2 ≤ count_at (first_range e) ranges

-- the three lists ascend by key and count nothing as 0, and their sums are those of so many points
pub record CanLoad (classes reference : ℕ) (e : EndPoints) (peaks valleys ranges : List Bin) : Type 0 where
  pub ends : IsEnds classes e
  pub few : e.points ≤ MAX_POINTS
  pub peaks_are : AreBinsFrom reference classes peaks
  pub valleys_are : AreBinsFrom 0 reference valleys
  pub ranges_are : AreBinsFrom 1 classes ranges
  pub extremes : sum_of peaks + sum_of valleys ≤ e.points - 2
  pub ranges_sum : sum_of ranges ≡ e.points - 1
  pub counted : 2 ≤ e.points → CountsEnds e ranges

-- the ranges but the last one
abbrev pub decided_of : ℕ → EndPoints → List Bin → List ℕ
decided_of k e ranges = if nat_le 2 e.points then lower (table_with_bins 0 (replicate k 0) ranges) (last_range e)
    else table_with_bins 0 (replicate k 0) ranges

abbrev pub loaded_of : ℕ → ℕ → EndPoints → List Bin → List Bin → List Bin → SimpleValue
loaded_of classes reference e peaks valleys ranges = record {
  classes = classes;
  reference = reference;
  ends = e;
  decided = decided_of classes e ranges;
  extremes = table_with_bins 0 (table_with_bins 0 (replicate classes 0) valleys) peaks;
}
