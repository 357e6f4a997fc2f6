-- What `join` answers.
use Rattle.std.specs.Prelude.{◌≡◌, ◌≢◌, Result, Ok, Err}
use Rattle.segment.specs.Segment.{SegmentValue}
use Rattle.segment.specs.declared.segment.join.JoinRefusal.{JoinRefusal}
use Rattle.segment.specs.declared.segment.join.JoinRefusal.TheVariants.{OtherGauge, NotNext}

abbrev pub IsJoinAnswer : SegmentValue → SegmentValue → Result (Unit {0}) JoinRefusal → Type 0
IsJoinAnswer v w (Ok u) = (v.gauge ≡ w.gauge) × (v.to ≡ w.from)
IsJoinAnswer v w (Err (OtherGauge a b)) = (v.gauge ≢ w.gauge) × (a ≡ v.gauge) × (b ≡ w.gauge)
IsJoinAnswer v w (Err (NotNext t f)) = (v.gauge ≡ w.gauge) × (v.to ≢ w.from) × (t ≡ v.to) × (f ≡ w.from)
