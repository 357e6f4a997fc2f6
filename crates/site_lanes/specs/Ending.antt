-- The answer for lanes that have ended.
--   lane_fault     that of a lane that has not ended soundly
--   FirstFault     that of the lowest such lane
use Rattle.std.specs.Prelude.{◌≡◌, ◌<◌, ℕ, List, length, Option, Some, None, slice_index_or}
use Rattle.recording.specs.declared.lane_ends.end.End.{End}
use Rattle.recording.specs.declared.lane_ends.end.End.TheVariants as end
use Rattle.count_workers.specs.declared.lane_loans.lane.Lane.{Lane}
use Rattle.status.specs.declared.status.Status.{Status}
use Rattle.status.specs.declared.status.Status.TheVariants.{Torn, ReadFault, TooLong}

abbrev pub lane_fault : ℕ → End → Option Status
lane_fault g end.More = None
lane_fault g end.Ended = None
lane_fault g (end.Torn bytes) = Some (Torn g bytes)
lane_fault g end.ReadFault = Some ReadFault
lane_fault g end.TooLong = Some (TooLong g)

abbrev pub NoFaultBelow : {C : Type 0} → List (Lane C) → ℕ → Type 0
NoFaultBelow {C} lanes k = (g : ℕ) (d : Lane C) → g < k → lane_fault g (slice_index_or lanes g d).end ≡ None

abbrev pub FirstFault : {C : Type 0} → List (Lane C) → Option Status → Type 0
FirstFault lanes None = NoFaultBelow lanes (length lanes)
FirstFault {C} lanes (Some status) = (g : ℕ) × (g < length lanes)
    × ((d : Lane C) → lane_fault g (slice_index_or lanes g d).end ≡ Some status) × NoFaultBelow lanes g
