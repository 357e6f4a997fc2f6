use Rattle.std.proofs.Common.{◌-◌, length}
use Rattle.std.specs.Prelude.{sum}
use Rattle.tally.specs.Layout.{IsLayout, counts_in}
use Rattle.tally.proofs.AddEntries.{HasEntries}
use Rattle.tally.proofs.layout.raise_each.Given as goal

abbrev pub invariant-loop-entry : goal.invariant-loop-entry
invariant-loop-entry l = record {
  layout : IsLayout l.classes (length l.initial.touched - 1) l.counts l.touched l.used (sum l.counts);
  entries : HasEntries (counts_in l.classes (length l.initial.touched - 1) l.initial.counts)
      (counts_in l.classes (length l.initial.touched - 1) l.counts) l.entries l.entry-index;
}
