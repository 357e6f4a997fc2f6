-- What printing ends with, where its memory was taken before.
use Rattle.status.specs.declared.status.Status.{Status}
use Rattle.status.specs.declared.status.Status.TheVariants.{Done, WriteFault, Config as BadConfig, Store as BadStore, ReadFault, DiskFault, OutOfMemory}

abbrev pub IsPrinting : Status → Type 0
IsPrinting Done = Unit {0}
IsPrinting WriteFault = Unit {0}
IsPrinting status = ⊥

abbrev pub IsReporting : Status → Type 0
IsReporting Done = Unit {0}
IsReporting (BadConfig fault) = Unit {0}
IsReporting (BadStore fault) = Unit {0}
IsReporting ReadFault = Unit {0}
IsReporting WriteFault = Unit {0}
IsReporting DiskFault = Unit {0}
IsReporting OutOfMemory = Unit {0}
IsReporting status = ⊥
