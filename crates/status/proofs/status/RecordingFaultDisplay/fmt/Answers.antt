use Rattle.std.proofs.Common.{append_assoc}
use Rattle.std.proofs.Output.{has_written_of_eq}
use Rattle.status.proofs.status.RecordingFaultDisplay.fmt.Goals as goal

pub returns-in-ShortRow-clause-writes : goal.returns-in-ShortRow-clause-writes
returns-in-ShortRow-clause-writes g c =
    rw c.in-ShortRow.is
    (λ plain ok. has_written_of_eq _ _ _ _ _ (simp append_assoc) (c.write-in-ShortRow.ensures.writes plain ok))

pub returns-in-Cell-clause-writes : goal.returns-in-Cell-clause-writes
returns-in-Cell-clause-writes g c =
    rw c.in-Cell.is
    (λ plain ok. has_written_of_eq _ _ _ _ _ (simp append_assoc) (c.write-in-Cell.ensures.writes plain ok))
