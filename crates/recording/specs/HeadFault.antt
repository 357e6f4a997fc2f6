-- What is told of a head that was not read.
use Rattle.std.specs.Prelude.{ℕ, List, ◌++◌, codes}
use Rattle.std.specs.Fmt.{decimal}
use Rattle.recording.specs.declared.head.HeadFault.{HeadFault}
use Rattle.recording.specs.declared.head.HeadFault.TheVariants.{Short, Magic, Version, NotZero, ReadFault}

abbrev pub head_fault_text : HeadFault → List ℕ
head_fault_text Short = codes "shorter than 32 bytes"
head_fault_text Magic = codes "no SGRC at the front"
head_fault_text (Version version) = codes "version " ++ decimal version ++ codes " in place of 1"
head_fault_text NotZero = codes "a reserved byte that is not 0"
head_fault_text ReadFault = codes "a read failed"
