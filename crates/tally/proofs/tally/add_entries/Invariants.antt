use Rattle.tally.proofs.AddEntries.{HasEntries}
use Rattle.tally.proofs.tally.add_entries.Given as goal

abbrev pub invariant-loop-entry : goal.invariant-loop-entry
invariant-loop-entry l = HasEntries l.initial.log l.log l.entries l.entry-index
