use Rattle.std.proofs.Common.{◌≤◌, ◌-◌}
use Rattle.tally.specs.Layout.{row_start}
use Rattle.tally.proofs.layout.row_of.Given as goal

abbrev pub invariant-loop-lo : goal.invariant-loop-lo
invariant-loop-lo l = row_start l.classes l.lo ≤ l.place

abbrev pub decreases-loop-lo : goal.decreases-loop-lo
decreases-loop-lo l = l.classes - l.lo
