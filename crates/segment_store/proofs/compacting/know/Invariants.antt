use Rattle.std.proofs.Common.{ℕ, ◌<◌, get_or}
use Rattle.segment.specs.segment_rules.Rules.{AreSegmentParts}
use Rattle.segment.specs.Segment.{SegmentValue, IsSegment}
use Rattle.segment.specs.Parts.{parts_of}
use Rattle.segment_store.proofs.compacting.know.Given as goal

abbrev pub invariant-loop-gauge : goal.invariant-loop-gauge
invariant-loop-gauge l = record {
  rules : (i : ℕ) (d : SegmentValue) → i < l.gauge → IsSegment (get_or l.held i d);
  parts : (i : ℕ) (d : SegmentValue) → i < l.gauge → AreSegmentParts (get_or l.held i d).grid (parts_of (get_or l.held i d));
}
