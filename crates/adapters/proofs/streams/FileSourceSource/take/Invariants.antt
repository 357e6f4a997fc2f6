use Rattle.std.proofs.Common.{◌≡◌}
use Rattle.adapters.specs.Known.{Tells, bytes_of}
use Rattle.adapters.proofs.streams.FileSourceSource.take.Given as goal

-- no fault is counted before the last read, and a read that was interrupted takes nothing
abbrev pub invariant-loop : goal.invariant-loop
invariant-loop g l = record {
  uncounted : l.self.faults ≡ l.fn.self.faults;
  untaken : Tells g.F.Read.remaining → bytes_of (g.F.Read.remaining l.self.file) ≡ bytes_of (g.F.Read.remaining l.fn.self.file);
}
