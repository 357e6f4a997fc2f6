use Rattle.std.proofs.Common.{◌≤◌}
use Rattle.count_command.specs.watching.Seen.{TellsOnlySeen}
use Rattle.count_command.specs.watching.Steps.{IsSeenLineOf}
use Rattle.count_command.proofs.on_watching.SeenNumbers.{StepsSoFar}
use Rattle.count_command.proofs.watching.seen_telling.tell_gauge.Given as goal

abbrev pub invariant-loop-i : goal.invariant-loop-i
invariant-loop-i g l =
    let k = g.K.Station in
    record {
      only : k.tells → TellsOnlySeen k (IsSeenLineOf l.name l.start l.step l.held) l.fn.station l.station;
      steps : k.tells → StepsSoFar l.name l.start l.step l.held l.least l.i (k.told l.fn.station) (k.told l.station);
      later : k.faults l.fn.station ≤ k.faults l.station;
    }
