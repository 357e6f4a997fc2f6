-- Each level adds one at most.
use Rattle.std.proofs.Common.{◌≡◌, ◌≤◌, ℕ}
use Rattle.simple_counts.specs.level_crossing.Crossings.{crossing_count}
use Rattle.bench_times.proofs.call_times.counts.crossings_of.Given as goal

abbrev pub invariant-loop-level : goal.invariant-loop-level
invariant-loop-level l = record {
  few : (b : ℕ) → crossing_count l.crossings b ≤ l.level-index;
  classes : l.crossings.classes ≡ l.grid.classes;
}
