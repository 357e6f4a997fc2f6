use Rattle.std.proofs.Common.{◌≡◌, take}
use Rattle.std.specs.Prelude.{find}
use Rattle.tally.specs.Counts.{is_from}
use Rattle.tally.specs.Log.{cells_of}
use Rattle.tally.proofs.entries.first_in.Given as goal

abbrev pub invariant-loop-entry : goal.invariant-loop-entry
invariant-loop-entry l = l.found ≡ find (is_from l.lo l.hi) (cells_of (take l.entry-index l.entries))
