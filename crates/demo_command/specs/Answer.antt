-- What `demo` may answer.
use Rattle.status.specs.declared.status.Status.{Status}
use Rattle.status.specs.declared.status.Status.TheVariants.{OutOfMemory}
use Rattle.status.specs.Printing.{IsPrinting}

-- nothing is read, so no source fails
abbrev pub IsDemoAnswer : Status → Type 0
IsDemoAnswer OutOfMemory = Unit {0}
IsDemoAnswer status = IsPrinting status
