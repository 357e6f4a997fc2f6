use Rattle.std.proofs.Common.{◌≡◌, ◌++◌, List, ℕ}
use Rattle.adapters.specs.Known.{Tells, bytes_of}
use Rattle.adapters.proofs.streams.OutputSink.write.Given as goal

-- what was written so far, and the rest, are the bytes
abbrev pub invariant-loop : goal.invariant-loop
invariant-loop g l = record {
  uncounted : l.self.faults ≡ l.fn.self.faults;
  so_far : Tells g.W.Write.contents → (front : List ℕ) × (l.bytes ≡ front ++ l.rest)
      × (bytes_of (g.W.Write.contents l.self.out) ≡ bytes_of (g.W.Write.contents l.fn.self.out) ++ front);
}
