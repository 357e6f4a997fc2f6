use Rattle.std.proofs.Common.{◌≡◌, ◌-◌, ◌≤◌, ◌<◌, ◌+◌, ◌*◌}
use Rattle.recording.proofs.Skipped.{Skipped}
use Rattle.recording.proofs.skipping.skip.Given as goal

abbrev pub invariant-loop-skipped : goal.invariant-loop-skipped
invariant-loop-skipped g l = record {
  short : l.part < 4;
  fits : 4 * l.skipped + l.part ≤ 4 * l.n;
  so_far : g.S.Source.tells → Skipped (g.S.Source.left l.fn.src) (g.S.Source.left l.src) l.skipped l.part;
  steady : g.S.Source.faults l.src ≡ g.S.Source.faults l.fn.src;
  number : g.S.Source.number l.src ≡ g.S.Source.number l.fn.src;
}

abbrev pub decreases-loop-skipped : goal.decreases-loop-skipped
decreases-loop-skipped g l = 4 * l.n - (4 * l.skipped + l.part)
