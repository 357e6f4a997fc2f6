-- What `take` does with a reading.
use Rattle.std.specs.Prelude.{◌≡◌, ◌+◌}
use Rattle.calibration.specs.declared.reading.Reading.{Reading}
use Rattle.calibration.specs.declared.reading.Reading.TheVariants.{Missing, Refused, Level}
use Rattle.segment.specs.Segment.{SegmentValue}

-- One reading more. Where it is missing or refused, its number and the name's end are raised, and nothing else changes.
abbrev pub AddsOne : Reading → SegmentValue → SegmentValue → Type 0
AddsOne Missing v w = w ≡ record v { missing = v.missing + 1; to = v.to + 1 }
AddsOne Refused v w = w ≡ record v { refused = v.refused + 1; to = v.to + 1 }
AddsOne (Level l) v w = (w.used ≡ v.used + 1) × (w.missing ≡ v.missing) × (w.refused ≡ v.refused) × (w.to ≡ v.to + 1)
