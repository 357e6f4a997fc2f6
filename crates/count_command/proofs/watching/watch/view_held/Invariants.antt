use Rattle.segment_store.specs.Held.{ends_of}
use Rattle.count_command.specs.watching.Watching.{ShowsAtMost}
use Rattle.count_command.proofs.watching.watch.view_held.Given as goal

abbrev pub invariant-loop-gauge : goal.invariant-loop-gauge
invariant-loop-gauge l = record { shown : ShowsAtMost l.view l.grid (ends_of l.store.held) }
