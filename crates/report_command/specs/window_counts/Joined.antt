-- What a window holds of a gauge.
--   IsJoined   these bodies of a gauge, one behind the other, joined; nothing where there is none
use Rattle.std.specs.Prelude.{◌≡◌, ◌<◌, ◌++◌, ℕ, List, [], ◌∷◌}
use Rattle.calibration.specs.declared.limits.TheConstants.{MAX_SAMPLES}
use Rattle.calibration.specs.Grid.{GridValue}
use Rattle.segment.specs.segment_rules.Parts.{PartsValue}
use Rattle.segment.specs.Segment.{SegmentValue, IsSegment, empty_at}
use Rattle.segment.specs.Parts.{parts_of}
use Rattle.segment_store.specs.Held.{JoinsPart}

pub data IsJoined (grid : GridValue) (g : ℕ) : List PartsValue → SegmentValue → Type 0 where
  none : IsJoined grid g [] (empty_at grid g 0 MAX_SAMPLES)
  first : {w : SegmentValue} (s : SegmentValue) → s.gauge ≡ g → s.grid ≡ grid → IsSegment s → s.from < s.to
      → JoinsPart (empty_at grid g s.from MAX_SAMPLES) s w → IsJoined grid g (parts_of s ∷ []) w
  more : {bodies : List PartsValue} {v w : SegmentValue} (s : SegmentValue) → s.gauge ≡ g → s.grid ≡ grid → IsSegment s
      → s.from < s.to → v.from < v.to → IsJoined grid g bodies v → JoinsPart v s w
      → IsJoined grid g (bodies ++ parts_of s ∷ []) w
