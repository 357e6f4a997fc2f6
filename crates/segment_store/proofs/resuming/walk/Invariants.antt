use Rattle.std.proofs.Common.{◌≡◌, ◌≤◌, ◌<◌, ◌-◌, ◌^◌, ℕ, List, length, get_or}
use Rattle.std.specs.Prelude.{map, Result}
use Rattle.segment.specs.Parts.{parts_of}
use Rattle.segment.specs.Segment.{SegmentValue}
use Rattle.segment_store.specs.declared.damage.Damage.{Damage}
use Rattle.segment_store.specs.Places.{IsNear}
use Rattle.segment_store.specs.Quiet.{IsQuiet}
use Rattle.segment_store.specs.Reading.{HasPassed}
use Rattle.segment_store.specs.Resuming.{HasRoom, Walks}
use Rattle.segment_store.specs.Visiting.{HasVisited}
use Rattle.segment_store.proofs.resuming.walk.Given as goal

abbrev pub invariant-bodies : goal.invariant-bodies
invariant-bodies g l =
    let k = g.K.Station in
    record {
      walks : k.tells → (r : Result (ℕ × List ℕ) (ℕ × Damage))
          → Walks l.fn.stretch.layout l.fn.setup l.fn.stretch.limit (k.seen l.fn.station) l.count l.place l.ends r
          → Walks l.fn.stretch.layout l.fn.setup l.fn.stretch.limit (k.seen l.fn.station) 0 l.fn.stretch.start l.fn.ends r;
      passed : (segments : List SegmentValue) × HasVisited g.V.Visitor.step l.fn.visitor l.visitor l.fn.setup l.fn.ends segments l.ends
          × (l.count ≡ length segments)
          × (k.tells → HasPassed l.fn.stretch.layout l.fn.setup (k.seen l.fn.station) l.fn.stretch.start l.fn.ends l.place l.ends (map parts_of
          segments));
      quiet : k.tells → IsQuiet (k.clock l.fn.station) (k.moments l.fn.station) (k.clock l.station) (k.moments l.station)
          (k.told l.fn.station)
          (k.told l.station) (k.seen l.fn.station) (k.seen l.station) (k.leaves l.fn.station) (k.leaves l.station);
      within : k.tells → l.place < l.fn.stretch.size;
      gate : k.tells → l.gate ≡ get_or (k.seen l.fn.station) l.place 0;
      few : l.count ≤ l.place;
      later : k.faults l.fn.station ≤ k.faults l.station;
      near : IsNear l.place l.ends;
      room : HasRoom l.fn.setup l.fn.stretch.limit l.scratch;
      gauges : length l.ends ≡ length l.fn.ends;
    }

abbrev pub decreases-bodies : goal.decreases-bodies
decreases-bodies g l = 2 ^ 64 - l.place
