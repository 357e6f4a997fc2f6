use Rattle.demo_command.proofs.Rounds.{IsCounted}
use Rattle.demo_command.proofs.counting.count_made.Given as goal

-- so many rounds were made
abbrev pub invariant-loop : goal.invariant-loop
invariant-loop g l = IsCounted l.seed l.samples l.counter l.prepared l.lanes l.totals
