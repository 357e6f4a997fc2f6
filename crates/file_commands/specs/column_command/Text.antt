-- Why a text file is not read whole.
use Rattle.std.specs.Prelude.{⊤}
use Rattle.file_commands.specs.declared.file_tasks.refusal.Refusal.{Refusal}
use Rattle.file_commands.specs.declared.file_tasks.refusal.Refusal.TheVariants.{TooLong, ReadFault, OutOfMemory}

abbrev pub IsTextRefusal : Refusal → Type 0
IsTextRefusal TooLong = ⊤
IsTextRefusal ReadFault = ⊤
IsTextRefusal OutOfMemory = ⊤
IsTextRefusal refusal = ⊥
