-- The exit status of each answer.
use Rattle.std.specs.Prelude.{ℕ}
use Rattle.status.specs.declared.status.Status.{Status}
use Rattle.status.specs.declared.status.Status.TheVariants.{
  Done,
  Usage,
  Config,
  Store,
  Recording,
  Torn,
  ReadFault,
  WriteFault,
  DiskFault,
  OutOfMemory,
  TooLong,
  Differs,
}

abbrev pub code_of : Status → ℕ
code_of Done = 0
code_of Usage = 1
code_of (Config fault) = 2
code_of (Store fault) = 3
code_of (Recording gauge fault) = 4
code_of (Torn gauge bytes) = 5
code_of ReadFault = 6
code_of WriteFault = 7
code_of DiskFault = 8
code_of OutOfMemory = 9
code_of (TooLong gauge) = 10
code_of (Differs gauge what held found) = 11
