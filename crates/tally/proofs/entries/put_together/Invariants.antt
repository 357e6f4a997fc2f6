use Rattle.tally.proofs.PutTogether.{IsPutTogether}
use Rattle.tally.proofs.entries.put_together.Given as goal

abbrev pub invariant-loop-i : goal.invariant-loop-i
invariant-loop-i l = IsPutTogether l.initial.entries l.entries l.kept l.i
