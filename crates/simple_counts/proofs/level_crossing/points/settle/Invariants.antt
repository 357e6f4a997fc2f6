use Rattle.std.proofs.Common.{◌≡◌, length}
use Rattle.simple_counts.specs.level_crossing.Halves.{IsSettled}
use Rattle.simple_counts.proofs.level_crossing.points.settle.Given as goal

abbrev pub invariant-loop-i : goal.invariant-loop-i
invariant-loop-i l = record {
  settled : IsSettled l.initial.begins l.initial.stops l.begins l.stops l.i;
  begins_length : length l.begins ≡ length l.initial.begins;
  stops_length : length l.stops ≡ length l.initial.stops;
}
