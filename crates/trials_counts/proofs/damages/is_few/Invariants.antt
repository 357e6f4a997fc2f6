-- The counts so far.
use Rattle.std.proofs.Common.{◌≡◌, ◌^◌, ◌≤◌, take}
use Rattle.std.specs.Prelude.{sum}
use Rattle.trials_counts.proofs.damages.is_few.Given as goal

abbrev pub invariant-loop-count : goal.invariant-loop-count
invariant-loop-count l = record { so_far : l.total ≡ sum (take l.count-index l.half_counts); few : l.total ≤ 2 ^ 42 }
