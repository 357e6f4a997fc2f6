-- What a station in memory shows to contracts.
--   StationState   what it has been through, which calls fail, and how many failed
--   state_of       that of a station
--   IsCounted      a call was made
--   content_of, lines_told, LeavesImage    what a read gives, the told lines, what a crash may leave
use Rattle.std.specs.Prelude.{◌≡◌, ◌≤◌, ◌+◌, ℕ, List, length, Result, OnOk, OnErr, IsErr, Contains}
use Rattle.outside.specs.Fault.{next_count}
use Rattle.outside.specs.declared.station.moment_station.MomentStation.{MomentStation}
use Rattle.outside.specs.station.Station.{Image, Lines}
use Rattle.outside.specs.station.Calls.{Past, disk, told_lines, MayLeave}
use Rattle.outside.specs.station.Recorder.{past_of}

pub record StationState : Type 0 where
  pub past : Past
  -- the numbers of the calls that fail
  pub failing : List ℕ
  -- how many calls failed
  pub faults : ℕ

abbrev pub state_of : MomentStation → StationState
state_of s = record { past = past_of s.recorder; failing = s.failing.items; faults = s.faults }

-- The call had the next number, from 0 over all calls, unless its record found no memory.
pub record IsCounted {T E : Type 0} (old new : StationState) (result : Result T E) : Type 0 where
  pub failing : new.failing ≡ old.failing
  pub first_image : new.past.image ≡ old.past.image
  pub one_more : OnOk result (length new.past.calls ≡ length old.past.calls + 1)
  pub no_more : length new.past.calls ≤ length old.past.calls + 1
  pub by_number : Contains old.failing (length old.past.calls) → IsErr result
  pub no_fault : OnOk result (new.faults ≡ old.faults)
  pub fault : OnErr result (new.faults ≡ next_count old.faults)

-- what a read gives
abbrev pub content_of : MomentStation → Image
content_of s = (disk (past_of s.recorder)).seen

abbrev pub lines_told : MomentStation → Lines
lines_told s = told_lines (past_of s.recorder)

-- a crash may leave this image
abbrev pub LeavesImage : MomentStation → Image → Type 0
LeavesImage s c = MayLeave (past_of s.recorder) c
