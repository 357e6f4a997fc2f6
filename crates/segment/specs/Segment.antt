-- A segment, the rules that it keeps, and what it stands for.
--   SegmentValue   what contracts see of a segment
--   empty_at       a segment of no samples
--   IsSegment      the rules
--   StandsFor      a segment stands for a level history
--   Stands         a segment stands for samples under a gain
--   SameStart      two segments of one gauge, from one place on, over one grid, that may come to as many samples
--   AddsReadings   a segment has the readings of two
use Rattle.std.specs.Prelude.{◌≡◌, ℕ, ℤ, ◌+◌, ◌-◌, ◌*◌, ◌≤◌, List, [], length}
use Rattle.calibration.specs.declared.limits.TheConstants.{MAX_SAMPLES}
use Rattle.calibration.specs.Gain.{GainValue}
use Rattle.calibration.specs.Grid.{GridValue, IsGrid}
use Rattle.calibration.specs.History.{history, missing_count, refused_count}
use Rattle.turning_points.specs.Points.{points}
use Rattle.turning_points.specs.EndPoints.{ends_of}
use Rattle.tally.specs.Counts.{Counts, count_of, total_of}
use Rattle.tally.specs.Room.{room_for}
use Rattle.four_point.specs.Reduction.{IsFourPointResult}
use Rattle.four_point.specs.Residue.{IsResidue, ReducerValue}
use Rattle.simple_counts.specs.level_crossing.Crossings.{CrossingsValue, Crosses, crossing_count, no_crossings}
use Rattle.simple_counts.specs.level_crossing.Loading.{HasEnds}
use Rattle.simple_counts.specs.Simple.{SimpleValue, CountsHistory, IsSimple, nothing}
use Rattle.segment.specs.Alike.{Alike}

pub record SegmentValue : Type 0 where
  pub grid : GridValue
  pub gauge : ℕ
  pub from : ℕ
  pub to : ℕ
  pub longest : ℕ
  pub used : ℕ
  pub missing : ℕ
  pub refused : ℕ
  pub tally : Counts
  pub reducer : ReducerValue
  pub crossings : CrossingsValue
  pub simple : SimpleValue

abbrev pub empty_at : GridValue → ℕ → ℕ → ℕ → SegmentValue
empty_at grid gauge from longest = record {
  grid = grid;
  gauge = gauge;
  from = from;
  to = from;
  longest = longest;
  used = 0;
  missing = 0;
  refused = 0;
  tally = record { classes = grid.classes; room = room_for grid.classes longest; cells = [] };
  reducer = record { classes = grid.classes; residue = [] };
  crossings = no_crossings grid.classes grid.reference;
  simple = nothing grid.classes grid.reference;
}

-- all parts are over the segment's grid
pub record IsOver (grid : GridValue) (v : SegmentValue) : Type 0 where
  pub limits : IsGrid grid
  pub tally : v.tally.classes ≡ grid.classes
  pub room : v.tally.room ≡ room_for grid.classes v.longest
  pub reducer : v.reducer.classes ≡ grid.classes
  pub crossings : (v.crossings.classes ≡ grid.classes) × (v.crossings.reference ≡ grid.reference)
  pub simple : (v.simple.classes ≡ grid.classes) × (v.simple.reference ≡ grid.reference)

pub record IsSegment (v : SegmentValue) : Type 0 where
  pub over : IsOver v.grid v
  -- the name
  pub span : (v.from ≤ v.to) × (v.to ≤ MAX_SAMPLES)
  pub longest : (1 ≤ v.longest) × (v.longest ≤ MAX_SAMPLES) × (v.to - v.from ≤ v.longest)
  -- the sums
  pub readings : v.used + v.missing + v.refused ≡ v.to - v.from
  pub used : v.simple.ends.points ≤ v.used
  pub none : v.simple.ends.points ≡ 0 → v.used ≡ 0
  pub balance : length v.reducer.residue + 2 * total_of v.tally.cells ≡ v.simple.ends.points
  pub crossed : (l : ℕ) → crossing_count v.crossings l ≤ v.used - 1
  pub simple : IsSimple v.simple
  -- the crossings begin and end where the points do
  pub ends : HasEnds v.crossings v.simple.ends
  -- the residue
  pub residue : IsResidue v.grid.classes v.reducer.residue
  pub alike : Alike v.simple.ends (ends_of v.reducer.residue)

pub record StandsFor (v : SegmentValue) (h : List ℕ) : Type 0 where
  pub used : v.used ≡ length h
  pub result : IsFourPointResult (points h) (count_of v.tally.cells) v.reducer.residue
  pub crossings : Crosses v.crossings h
  pub simple : CountsHistory v.simple h

pub record Stands (v : SegmentValue) (gain : GainValue) (samples : List ℤ) : Type 0 where
  pub span : v.to ≡ v.from + length samples
  pub missing : v.missing ≡ missing_count v.grid gain samples
  pub refused : v.refused ≡ refused_count v.grid gain samples
  pub history : StandsFor v (history v.grid gain samples)

abbrev pub SameStart : SegmentValue → SegmentValue → Type 0
SameStart v w = (w.grid ≡ v.grid) × (w.gauge ≡ v.gauge) × (w.from ≡ v.from) × (w.longest ≡ v.longest)

abbrev pub AddsReadings : SegmentValue → SegmentValue → SegmentValue → Type 0
AddsReadings v w x =
    (x.used ≡ v.used + w.used) × (x.missing ≡ v.missing + w.missing) × (x.refused ≡ v.refused + w.refused)
