-- The visitor of a window.
--   TimesValue    sample 0 stands at the start, and the window is from one instant to another
--   WindowsValue  besides, the period of each gauge and what is joined of it
--   IsBodyOf      a body is one for a segment
--   AreOwn        the segment of each gauge is of this grid, and may come to all samples
--   Adds          the step: a body that lies inside is joined to its gauge's, the first one to nothing
use Rattle.std.specs.Prelude.{◌≡◌, ◌≢◌, ◌<◌, ℕ, true, false, List, length, slice_index, slice_index_or}
use Rattle.calibration.specs.declared.limits.TheConstants.{MAX_SAMPLES}
use Rattle.calibration.specs.Grid.{GridValue}
use Rattle.segment.specs.declared.segment_rules.name.Name.{Name}
use Rattle.segment.specs.Segment.{SegmentValue, IsSegment, empty_at}
use Rattle.segment_store.specs.Held.{JoinsPart}
use Rattle.report_command.specs.windows.Window.{lies_inside, IsInstant}
use Rattle.report_command.specs.declared.window_counts.counting.Times.{Times}

pub record WindowsValue : Type 0 where
  pub times : Times
  -- of each gauge, in microseconds
  pub periods : List ℕ
  pub grid : GridValue
  pub joined : List SegmentValue

pub record AreInstants (t : Times) : Type 0 where
  pub start : IsInstant t.start
  pub from : IsInstant t.from
  pub to : IsInstant t.to

pub record IsOwn (grid : GridValue) (g : ℕ) (v : SegmentValue) : Type 0 where
  pub grid_is : v.grid ≡ grid
  pub gauge_is : v.gauge ≡ g
  pub longest_is : v.longest ≡ MAX_SAMPLES

-- a body is one for this segment, which may come to all samples
pub record IsBodyOf (s v : SegmentValue) : Type 0 where
  pub grid : s.grid ≡ v.grid
  pub gauge : s.gauge ≡ v.gauge
  pub longest : v.longest ≡ MAX_SAMPLES

abbrev pub AreOwn : GridValue → List SegmentValue → Type 0
AreOwn grid joined = (g : ℕ) (d : SegmentValue) → g < length joined → IsOwn grid g (slice_index_or joined g d)

abbrev pub name_in : SegmentValue → Name
name_in s = record { gauge = s.gauge; from = s.from; to = s.to }

-- what a body makes of its gauge's segment v
pub record AddsTo (t : Times) (period : ℕ) (v s w : SegmentValue) : Type 0 where
  pub outside : lies_inside t.start period t.from t.to (name_in s) ≡ false → w ≡ v
  pub first : lies_inside t.start period t.from t.to (name_in s) ≡ true → v.from ≡ v.to
      → JoinsPart (empty_at v.grid v.gauge s.from v.longest) s w
  pub next : lies_inside t.start period t.from t.to (name_in s) ≡ true → v.from ≢ v.to → s.from ≡ v.to
      → JoinsPart v s w

pub record Adds (u : WindowsValue) (s : SegmentValue) (w : WindowsValue) : Type 0 where
  pub times : w.times ≡ u.times
  pub periods : w.periods ≡ u.periods
  pub grid : w.grid ≡ u.grid
  pub gauges : length w.joined ≡ length u.joined
  pub rules : IsSegment s
  pub others : (g : ℕ) (d : SegmentValue) → g ≢ s.gauge → slice_index_or w.joined g d ≡ slice_index_or u.joined g d
  pub own : (d : SegmentValue) → s.grid ≡ u.grid → s.gauge < length u.joined
      → AddsTo u.times (slice_index u.periods s.gauge) (slice_index_or u.joined s.gauge d) s
      (slice_index_or w.joined s.gauge d)
