-- What is told of samples that were not counted again.
use Rattle.std.specs.Prelude.{ℕ, List, ◌++◌, codes}
use Rattle.std.specs.Fmt.{decimal}
use Rattle.recount.specs.declared.count.RecountFault.{RecountFault}
use Rattle.recount.specs.declared.count.RecountFault.TheVariants.{Fewer, ReadFault, OutOfMemory}

abbrev pub recount_fault_text : RecountFault → List ℕ
recount_fault_text (Fewer there) = codes "only " ++ decimal there ++ codes " samples there"
recount_fault_text ReadFault = codes "a read failed"
recount_fault_text OutOfMemory = codes "out of memory"
