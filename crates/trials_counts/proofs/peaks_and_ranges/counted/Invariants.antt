-- The grid stays.
use Rattle.std.proofs.Common.{◌≡◌}
use Rattle.trials_counts.proofs.peaks_and_ranges.counted.Given as goal

abbrev pub invariant-loop-level : goal.invariant-loop-level
invariant-loop-level l = record {
  classes : l.simple.classes ≡ l.grid.classes;
  reference : l.simple.reference ≡ l.grid.reference;
}
