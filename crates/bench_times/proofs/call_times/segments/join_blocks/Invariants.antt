-- The classes stay.
use Rattle.std.proofs.Common.{◌≡◌}
use Rattle.bench_times.proofs.call_times.segments.join_blocks.Given as goal

abbrev pub invariant-loop-part : goal.invariant-loop-part
invariant-loop-part l =
    (goal.iterator-loop-part).can_next l.part-iterator ×
    (goal.iterator-loop-part).is_finite l.part-iterator ×
    (l.classifier.grid ≡ l.grid)
