use Rattle.std.proofs.Common.{◌≡◌, ℕ, ◌+◌, ◌<◌, cond, leb, length, get_or}
use Rattle.simple_counts.proofs.level_crossing.points.put_extremes.Given as goal

abbrev pub invariant-loop-k : goal.invariant-loop-k
invariant-loop-k l = record {
  each : (k : ℕ) → k < l.k → get_or l.extremes k 0 ≡ get_or (cond (leb l.reference k) l.stops l.begins) (k + 1) 0;
  length_same : length l.extremes ≡ length l.initial.extremes;
}
