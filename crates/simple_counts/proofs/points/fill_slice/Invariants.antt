use Rattle.std.proofs.Common.{◌≡◌, length}
use Rattle.simple_counts.proofs.OfPoints.{FillsRanges}
use Rattle.simple_counts.proofs.points.fill_slice.Given as goal

abbrev pub invariant-loop-i : goal.invariant-loop-i
invariant-loop-i l = record {
  fills : FillsRanges (length l.initial.decided) l.list l.i l.decided;
  length_same : length l.decided ≡ length l.initial.decided;
}
