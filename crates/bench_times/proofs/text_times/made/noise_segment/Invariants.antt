-- The grid stays.
use Rattle.std.proofs.Common.{◌≡◌}
use Rattle.bench_times.proofs.text_times.made.noise_segment.Given as goal

abbrev pub invariant-loop : goal.invariant-loop
invariant-loop l = l.classifier.grid ≡ l.unit.grid
