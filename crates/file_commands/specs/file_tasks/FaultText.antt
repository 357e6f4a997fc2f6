-- What is told of a recording that is refused, or can't be read.
use Rattle.std.specs.Prelude.{ℕ, List, ◌++◌, codes}
use Rattle.std.specs.Fmt.{decimal}
use Rattle.status.specs.FaultText.{recording_text}
use Rattle.file_commands.specs.declared.file_tasks.refusal.Refusal.{Refusal}
use Rattle.file_commands.specs.declared.file_tasks.refusal.Refusal.TheVariants.{Head, Torn, TooLong, ReadFault, OutOfMemory}

abbrev pub refusal_text : Refusal → List ℕ
refusal_text (Head fault) = recording_text fault
refusal_text (Torn bytes) = codes "ends in " ++ decimal bytes ++ codes " odd bytes"
refusal_text TooLong = codes "too long"
refusal_text ReadFault = codes "a read failed"
refusal_text OutOfMemory = codes "out of memory"
